-- A check that holds means that its turns are independent.
use Rattle.std.specs.Prelude.{ℕ, ◌≡◌, ◌<◌, List, Some}
use Rattle.elf_image.specs.declared.image.Elf.{Elf}
use Rattle.elf_image.specs.Layout.{IsLoadable}
use Rattle.rv64_decode.specs.Range.{AreWords, AreBytes}
use Rattle.guest_memory.specs.Areas.{areas_of}
use Rattle.loop_data.specs.declared.graph.Graph.{Graph}
use Rattle.loop_data.specs.declared.plans.Plan.{Plan}
use Rattle.loop_data.specs.declared.shape.Level.{Level}
use Rattle.loop_data.specs.declared.shape.LoopShape.{LoopShape}
use Rattle.loop_data.specs.Graphs.{IsGraph}
use Rattle.loop_data.specs.Independent.{Role, Independent}
use Rattle.loop_data.specs.LoopCode.{code_of}
use Rattle.loop_data.specs.LoopWords.{AreNest}
use Rattle.loop_data.specs.Lookups.{cell_map, roles_by}
use Rattle.loop_data.specs.Runs.{State}
use Rattle.loop_data.specs.Turns.{AtLoop, turn, Leaves}
use Rattle.alias_checks.specs.declared.lists.Check.{Check}
use Rattle.alias_checks.specs.declared.lists.Turns.{Turns}
use Rattle.alias_checks.specs.Answers.{answer}
use Rattle.loop_choice.specs.Judging.{IsPlanOf}

-- a state at a loop of an executable, whose registers are words and whose bytes are bytes
pub record IsAtLoop (elf : Elf) (l : Level) (s : State) : Type 0 where
  pub at : AtLoop (areas_of elf) l s
  pub registers : AreWords s.regs
  pub bytes : AreBytes s.memory

-- what becomes of the locations in each turn of a loop, by its plan
abbrev pub roles_of : Graph → List Level → Plan → Level → ℕ → Role
roles_of G levels plan l = roles_by (code_of G (cell_map plan.cells)) levels plan.classes l

-- the check of a loop's plan holds in a state at the loop, and tells these turns
pub record IsHeld (elf : Elf) (G : Graph) (shape : LoopShape) (plan : Plan) (check : Check) (root : Level) (s : State)
    (t : Turns) : Type 0 where
  pub load : IsLoadable elf
  pub graph : IsGraph elf G
  pub judged : IsPlanOf G elf shape plan check
  pub state : IsAtLoop elf root s
  pub answer : answer check s.regs s.memory ≡ Some t

-- then so many turns from there are independent
abbrev pub IndependenceLaw : Type 0
IndependenceLaw = (elf : Elf) (G : Graph) (shape : LoopShape) (plan : Plan) (check : Check)
    (nest : AreNest G shape.levels) (s : State) (t : Turns) → IsHeld elf G shape plan check nest.root s t
    → Independent nest.root (cell_map plan.cells) (roles_of G shape.levels plan nest.root) s t.root

-- and none of them leaves the loop
abbrev pub StayLaw : Type 0
StayLaw = (elf : Elf) (G : Graph) (shape : LoopShape) (plan : Plan) (check : Check) (nest : AreNest G shape.levels)
    (s : State) (t : Turns) → IsHeld elf G shape plan check nest.root s t → (n : ℕ) → turn nest.root s n < t.root
    → ¬ Leaves nest.root s n
