-- What the added code of a loop does on the only hart: where the check tells turns, what the loop does in them, and
-- otherwise nothing.
use Rattle.std.specs.Prelude.{ℕ, ◌≡◌, ◌<◌, ◌≤◌, ◌^◌, List, ◌++◌, length, Option, Some, None}
use Rattle.std.specs.List.{All}
use Rattle.rv64_decode.specs.Area.{number_at, bytes_of}
use Rattle.rv64_decode.specs.Hart.{Hart, address, fetched}
use Rattle.rv64_decode.specs.Registers.{register}
use Rattle.rv64_decode.specs.declared.xinstr.XInstr.TheVariants.{Back}
use Rattle.loop_data.specs.declared.shape.Level.{Level}
use Rattle.loop_data.specs.declared.verdict.Cell.{Cell}
use Rattle.loop_data.specs.Independent.{Role}
use Rattle.loop_data.specs.Locations.{CellMap, cell_at, address as cell_address, width_of}
use Rattle.loop_data.specs.LoopCode.{LoopCode}
use Rattle.loop_data.specs.Runs.{State, run}
use Rattle.loop_data.specs.Turns.{IsArrival}
use Rattle.alias_checks.specs.declared.lists.Check.{Check}
use Rattle.alias_checks.specs.declared.lists.Turns.{Turns}
use Rattle.alias_checks.specs.Answers.{answer}
use Rattle.stub_laws.specs.Sound.{IsSound, StaysSound}
use Rattle.check_code.specs.CheckLaws.{TellsCheck, cell_loads, IsArrival as IsAsked}
use Rattle.turn_copies.specs.Bodies.{IsBody, IsOrdered, IsDivided}
use Rattle.turn_copies.specs.Edges.{CanWriteBack, stores_back}
use Rattle.turn_copies.specs.Passages.{in_slot, accesses_between}
use Rattle.turn_copies.specs.Regions.{CanMove}
use Rattle.turn_copies.specs.StubWords.{HasStub}
use Rattle.divided_loops.specs.Alone.{run_alone, MeetsNoFault}
use Rattle.divided_loops.specs.Forks.{forks_of, LeavesFirst}

-- the added code of a loop stands among these words from place p on, with a check whose words tell what it tells. They
-- are at most 2 ^ 32 words of 32 bits
pub record IsAdded (code : List ℕ) (l : Level) (B : LoopCode) (roles : ℕ → Role) (c : Check) (p : ℕ) (words : List ℕ)
    : Type 0 where
  pub body : IsBody l B
  pub ordered : IsOrdered l B
  pub tells : TellsCheck c words
  pub stub : HasStub code l B roles p words
  pub size : length code ≤ 2 ^ 32
  pub bits : All (λ w. w < 2 ^ 32) code

-- the check may be asked of this state, for the loop's own cells, and the turns that it tells may be divided
pub record IsAskedOf (l : Level) (B : LoopCode) (roles : ℕ → Role) (c : Check) (s : State) : Type 0 where
  pub asked : IsAsked c s.regs s.memory
  pub cells : c.cells.list.items ≡ B.cells.cells
  pub moves : CanMove roles
  pub divided : (t : Turns) → answer c s.regs s.memory ≡ Some t → IsDivided l B roles s t.root
  pub stored : (t : Turns) → answer c s.regs s.memory ≡ Some t → CanWriteBack B.cells roles s

-- the only hart, at a place of the added code, with the registers and the memory of a state
pub record Enters (s : State) (place : ℕ) (h : Hart) : Type 0 where
  pub at : h.pc ≡ address place
  pub sound : IsSound h
  pub registers : (r : ℕ) → r < 32 → register h.regs r ≡ register s.regs r
  pub memory : h.memory ≡ s.memory
  pub number : h.number ≡ 0
  pub harts : h.harts ≡ 1

-- it has come from the first to a word at which it leaves the added code, with all registers and the memory of a state,
-- and is the only one still
pub record LeavesAs (code : List ℕ) (s : State) (h now : Hart) : Type 0 where
  pub leaves : fetched code now.pc ≡ Some Back
  pub registers : now.regs ≡ s.regs
  pub memory : now.memory ≡ s.memory
  pub stays : StaysSound h now

-- it has made these accesses up to visit b: one load of each cell, then those of the loop's own words that are none of
-- cells, in order, and then the stores of the cells that the loop stores to, with what they hold at visit b
pub record HasAccessed (C : CellMap) (s : State) (b : ℕ) (h now : Hart) : Type 0 where
  pub values : ℕ → ℕ
  pub hold : (k : ℕ) (c : Cell) → cell_at C.cells k ≡ Some c
      → in_slot c.wide (values k) ≡ number_at (bytes_of (width_of c)) (run s b).memory (cell_address s.regs c)
  pub log : now.log
      ≡ h.log ++ (cell_loads s.regs C.cells ++ (accesses_between C s 0 b ++ stores_back s.regs values 0 C.cells))

-- where the check tells turns, the hart leaves with the registers and the memory of the arrival so many turns on, and
-- otherwise as it came. It has met one fork, which divides these turns, and otherwise none
abbrev pub DoesTurns : List ℕ → Level → CellMap → State → Hart → Option Turns → Type 0
DoesTurns code l C s h (Some t) =
    (n b : ℕ) × IsArrival l s t.root b × LeavesAs code (run s b) h (run_alone code n h)
    × HasAccessed C s b h (run_alone code n h) × LeavesFirst code n h (forks_of (Some t))
DoesTurns code l C s h None = (n : ℕ) × LeavesAs code s h (run_alone code n h) × LeavesFirst code n h (forks_of None)

abbrev pub AddedLaw : Type 0
AddedLaw = (code : List ℕ) (l : Level) (B : LoopCode) (roles : ℕ → Role) (c : Check) (p : ℕ) (words : List ℕ)
    (s : State) (h : Hart) → IsAdded code l B roles c p words → IsAskedOf l B roles c s → Enters s p h
    → DoesTurns code l B.cells s h (answer c s.regs s.memory) × MeetsNoFault code h
