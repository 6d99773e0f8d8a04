-- What a check that holds at the start of a program says of a loop.
use Rattle.std.specs.Prelude.{ℕ, List}
use Rattle.elf_image.specs.declared.image.Elf.{Elf}
use Rattle.guest_memory.specs.Areas.{areas_of}
use Rattle.rv64_decode.specs.declared.outcome.Next.TheVariants.{At}
use Rattle.loop_data.specs.declared.graph.Graph.{Graph}
use Rattle.loop_data.specs.declared.plans.Plan.{Plan}
use Rattle.loop_data.specs.declared.shape.Level.{Level}
use Rattle.loop_data.specs.declared.shape.LoopShape.{LoopShape}
use Rattle.loop_data.specs.Independent.{Independent}
use Rattle.loop_data.specs.LoopWords.{AreNest}
use Rattle.loop_data.specs.Lookups.{cell_map}
use Rattle.loop_data.specs.Runs.{State}
use Rattle.alias_checks.specs.declared.lists.Check.{Check}
use Rattle.loop_choice.specs.Independence.{roles_of}
use Rattle.loop_choice.specs.Judging.{IsPlanOf}

-- at the header of a loop, with these registers and the memory with which the executable starts
abbrev pub arrived : Elf → Level → List ℕ → State
arrived elf l regs = record { next = At l.header; regs = regs; memory = areas_of elf }

-- so many turns of the loop are independent from there, by the plan of it
pub record AreDivided (elf : Elf) (G : Graph) (shape : LoopShape) (regs : List ℕ) (p : ℕ) : Type 0 where
  pub nest : AreNest G shape.levels
  pub plan : Plan
  pub check : Check
  pub judged : IsPlanOf G elf shape plan check
  pub independent :
      Independent nest.root (cell_map plan.cells) (roles_of G shape.levels plan nest.root)
      (arrived elf nest.root regs) p
