-- The check of a loop that is judged Parallel is one whose words tell what it tells.
use Rattle.elf_image.specs.declared.image.Elf.{Elf}
use Rattle.elf_image.specs.Layout.{IsLoadable}
use Rattle.loop_data.specs.declared.graph.Graph.{Graph}
use Rattle.loop_data.specs.declared.plans.Plan.{Plan}
use Rattle.loop_data.specs.declared.shape.LoopShape.{LoopShape}
use Rattle.loop_data.specs.LoopWords.{AreNest}
use Rattle.alias_checks.specs.declared.lists.Check.{Check}
use Rattle.loop_choice.specs.Judging.{IsPlanOf}
use Rattle.check_code.specs.Checkable.{HasRoom, IsCheckable}

-- it has room in instructions
abbrev pub JudgedRoomLaw : Type 0
JudgedRoomLaw = (elf : Elf) (G : Graph) (shape : LoopShape) (plan : Plan) (check : Check) → IsLoadable elf
    → AreNest G shape.levels → IsPlanOf G elf shape plan check → HasRoom check

-- and is over the loop's own locations and levels
abbrev pub JudgedCheckableLaw : Type 0
JudgedCheckableLaw = (elf : Elf) (G : Graph) (shape : LoopShape) (plan : Plan) (check : Check) → IsLoadable elf
    → AreNest G shape.levels → IsPlanOf G elf shape plan check → IsCheckable check
