-- The check of a loop that is judged Parallel can be asked.
use Rattle.std.specs.List.{All}
use Rattle.elf_image.specs.declared.image.Elf.{Elf}
use Rattle.elf_image.specs.Layout.{IsLoadable}
use Rattle.guest_memory.specs.Areas.{areas_of}
use Rattle.loop_data.specs.declared.graph.Graph.{Graph}
use Rattle.loop_data.specs.declared.plans.Plan.{Plan}
use Rattle.loop_data.specs.declared.shape.LoopShape.{LoopShape}
use Rattle.loop_data.specs.declared.verdict.Cell.{Cell}
use Rattle.loop_data.specs.LoopWords.{AreNest}
use Rattle.stack_slots.specs.CellLaws.{HasOffset}
use Rattle.alias_checks.specs.declared.lists.Check.{Check}
use Rattle.alias_checks.specs.Areas.{AreBoundsOf}
use Rattle.alias_checks.specs.CellTests.{HasRegister}
use Rattle.alias_checks.specs.Listing.{ArePairs}
use Rattle.loop_choice.specs.Judging.{IsPlanOf}

-- the bases of its cells are registers, and their offsets have room in an instruction; its pairs are those of its
-- accesses, and its areas those with which the executable starts
pub record CanBeAsked (elf : Elf) (check : Check) : Type 0 where
  pub registers : All (λ (c : Cell). HasRegister c.base) check.cells.list.items
  pub offsets : All (λ (c : Cell). HasOffset c.base c.offset) check.cells.list.items
  pub pairs : ArePairs check.accesses.list.items check.pairs
  pub areas : AreBoundsOf check.areas (areas_of elf)

-- where it is that of a plan for a nest
abbrev pub AskingLaw : Type 0
AskingLaw = (elf : Elf) (G : Graph) (shape : LoopShape) (plan : Plan) (check : Check) → IsLoadable elf
    → AreNest G shape.levels → IsPlanOf G elf shape plan check → CanBeAsked elf check
