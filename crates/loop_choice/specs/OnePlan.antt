-- A loop has one plan and one check.
use Rattle.std.specs.Prelude.{◌≡◌}
use Rattle.elf_image.specs.declared.image.Elf.{Elf}
use Rattle.loop_data.specs.declared.graph.Graph.{Graph}
use Rattle.loop_data.specs.declared.plans.Plan.{Plan}
use Rattle.loop_data.specs.declared.shape.LoopShape.{LoopShape}
use Rattle.loop_data.specs.Graphs.{IsGraph}
use Rattle.alias_checks.specs.declared.lists.Check.{Check}
use Rattle.loop_choice.specs.Judging.{IsOneOfLoops, IsPlanOf}

-- two plans and checks of a listed loop of an executable are the same, as they are kept
abbrev pub OnePlanLaw : Type 0
OnePlanLaw = (elf : Elf) (G : Graph) (s : LoopShape) (plan other : Plan) (check second : Check) → IsGraph elf G
    → IsOneOfLoops G s → IsPlanOf G elf s plan check → IsPlanOf G elf s other second
    → (plan ≡ other) × (check ≡ second)
