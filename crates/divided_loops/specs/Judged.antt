-- What is known of a loop that is judged Parallel, as its added code takes it: its words may be copied, and the turns
-- that its check tells may be divided.
use Rattle.std.specs.Prelude.{ℕ, ◌≡◌, ◌≤◌, ◌^◌, ◌<◌, List, length, Some}
use Rattle.std.specs.List.{All}
use Rattle.elf_image.specs.declared.image.Elf.{Elf}
use Rattle.elf_image.specs.Layout.{IsLoadable}
use Rattle.rv64_decode.specs.Hart.{Hart}
use Rattle.loop_data.specs.declared.graph.Graph.{Graph}
use Rattle.loop_data.specs.declared.plans.Plan.{Plan}
use Rattle.loop_data.specs.declared.shape.LoopShape.{LoopShape}
use Rattle.loop_data.specs.Executing.{AreProgramWords}
use Rattle.loop_data.specs.Graphs.{IsGraph}
use Rattle.loop_data.specs.Independent.{Independent}
use Rattle.loop_data.specs.LoopCode.{LoopCode, code_of}
use Rattle.loop_data.specs.LoopWords.{AreNest}
use Rattle.loop_data.specs.Lookups.{cell_map}
use Rattle.loop_data.specs.Runs.{State}
use Rattle.alias_checks.specs.declared.lists.Check.{Check}
use Rattle.alias_checks.specs.declared.lists.Turns.{Turns}
use Rattle.alias_checks.specs.Answers.{answer}
use Rattle.loop_choice.specs.Independence.{IsAtLoop, IsHeld, roles_of}
use Rattle.loop_choice.specs.Judging.{IsPlanOf}
use Rattle.check_code.specs.Checkable.{IsCheckable}
use Rattle.check_code.specs.CheckLaws.{TellsCheck}
use Rattle.turn_copies.specs.Bodies.{IsBody, IsOrdered, IsDivided}
use Rattle.turn_copies.specs.Edges.{CanWriteBack}
use Rattle.turn_copies.specs.Listing.{HasShortValues}
use Rattle.turn_copies.specs.Regions.{CanMove}
use Rattle.turn_copies.specs.StubWords.{HasStub}
use Rattle.divided_loops.specs.Alone.{MeetsNoFault}
use Rattle.divided_loops.specs.Added.{Enters, DoesTurns}

-- the words of a program with the cells of a loop's plan
abbrev pub planned : Graph → Plan → LoopCode
planned G plan = code_of G (cell_map plan.cells)

-- each auipc of the loop gives a signed number of 32 bits
abbrev pub ShortLaw : Type 0
ShortLaw = (elf : Elf) (G : Graph) (shape : LoopShape) (plan : Plan) (check : Check) (nest : AreNest G shape.levels)
    → AreProgramWords G → IsPlanOf G elf shape plan check → HasShortValues G nest.root

-- so that its words may be copied
abbrev pub CopyLaw : Type 0
CopyLaw = (elf : Elf) (G : Graph) (shape : LoopShape) (plan : Plan) (check : Check) (nest : AreNest G shape.levels)
    → IsLoadable elf → IsGraph elf G → AreProgramWords G → IsPlanOf G elf shape plan check
    → IsBody nest.root (planned G plan) × IsOrdered nest.root (planned G plan)

-- and added code may move its inductions on
abbrev pub MoveLaw : Type 0
MoveLaw = (elf : Elf) (G : Graph) (shape : LoopShape) (plan : Plan) (check : Check) (nest : AreNest G shape.levels)
    → IsPlanOf G elf shape plan check → CanMove (roles_of G shape.levels plan nest.root)

-- where the check holds in a state at the loop, the turns that it tells may be divided, and the cells written back
abbrev pub DividedLaw : Type 0
DividedLaw = (elf : Elf) (G : Graph) (shape : LoopShape) (plan : Plan) (check : Check) (nest : AreNest G shape.levels)
    (s : State) (t : Turns) → IsHeld elf G shape plan check nest.root s t
    → IsDivided nest.root (planned G plan) (roles_of G shape.levels plan nest.root) s t.root
    × CanWriteBack (cell_map plan.cells) (roles_of G shape.levels plan nest.root) s

-- the added code of such a loop among at most 2 ^ 32 words of 32 bits, with the words of its check, which tell what it
-- tells if they tell it of any check that can be told
pub record IsAddedFor (code : List ℕ) (G : Graph) (shape : LoopShape) (plan : Plan) (check : Check)
    (nest : AreNest G shape.levels) (p : ℕ) (words : List ℕ) : Type 0 where
  pub tells : IsCheckable check → TellsCheck check words
  pub stub : HasStub code nest.root (planned G plan) (roles_of G shape.levels plan nest.root) p words
  pub size : length code ≤ 2 ^ 32
  pub bits : All (λ w. w < 2 ^ 32) code

-- the turns that the check tells of a state are independent
abbrev pub AreIndependent : (G : Graph) (shape : LoopShape) → Plan → Check → AreNest G shape.levels → State → Type 0
AreIndependent G shape plan check nest s = (t : Turns) → answer check s.regs s.memory ≡ Some t
    → Independent nest.root (cell_map plan.cells) (roles_of G shape.levels plan nest.root) s t.root

-- on the only hart it does what the loop does in the turns that the check tells of a state at the loop, which are
-- independent, and nothing where it tells none
abbrev pub JudgedLaw : Type 0
JudgedLaw = (elf : Elf) (G : Graph) (shape : LoopShape) (plan : Plan) (check : Check) (nest : AreNest G shape.levels)
    (code : List ℕ) (p : ℕ) (words : List ℕ) (s : State) (h : Hart) → IsLoadable elf → IsGraph elf G
    → IsPlanOf G elf shape plan check → IsAddedFor code G shape plan check nest p words → IsAtLoop elf nest.root s
    → Enters s p h
    → DoesTurns code nest.root (cell_map plan.cells) s h (answer check s.regs s.memory) × MeetsNoFault code h
    × AreIndependent G shape plan check nest s
