-- What the words of a check do wherever they stand in added code. Of a hart that arrives at the loop they go on to
-- their end exactly where the check tells turns, and to the target of their open jumps exactly where it tells none.
-- They write no memory and meet no fault, since a hart that faults stays where it is; at their end the slots have the
-- last turn and passes, and what the cells held.
use Rattle.std.specs.Prelude.{ℕ, suc, ◌≡◌, ◌↔◌, ◌+◌, ◌-◌, ◌<◌, ◌≤◌, ◌^◌, List, [], ◌++◌, ◌∷◌, length, flat_map, slice_index, Option, Some, None}
use Rattle.rv64_decode.specs.Area.{Area}
use Rattle.rv64_decode.specs.Ask.{Ask, Loads}
use Rattle.rv64_decode.specs.Hart.{Hart, address as place_address, run}
use Rattle.rv64_decode.specs.Range.{AreWords, AreBytes}
use Rattle.rv64_decode.specs.Registers.{register}
use Rattle.guest_memory.specs.Layout.{AreasLieFrom}
use Rattle.loop_data.specs.declared.verdict.Cell.{Cell}
use Rattle.loop_data.specs.Locations.{cell_at, held as content_of, address, width_of}
use Rattle.alias_checks.specs.declared.lists.Check.{Check}
use Rattle.alias_checks.specs.declared.lists.Turns.{Turns}
use Rattle.alias_checks.specs.Areas.{AreBoundsOf}
use Rattle.alias_checks.specs.Answers.{answer}
use Rattle.stub_laws.specs.Locations.{held}
use Rattle.stub_laws.specs.Places.{WordsAt}

-- a memory in which a loop is arrived at with these registers: the areas of the check, whose bytes are bytes
pub record IsArrival (c : Check) (regs : List ℕ) (m : List Area) : Type 0 where
  pub registers : AreWords regs
  pub bytes : AreBytes m
  pub lie : AreasLieFrom 0 m
  pub areas : AreBoundsOf c.areas m

-- a hart at a place with this memory, which holds these registers: those that added code works with in their slots
pub record Arrives (regs : List ℕ) (m : List Area) (place : ℕ) (h : Hart) : Type 0 where
  pub at : h.pc ≡ place_address place
  pub memory : h.memory ≡ m
  pub registers : length h.regs ≡ 32
  pub slots : length h.slots ≡ 32
  pub each : (r : ℕ) → r < 32 → held h r ≡ register regs r

-- one load of each cell, in order
abbrev pub cell_loads : List ℕ → List Cell → List Ask
cell_loads regs cells = flat_map (λ (c : Cell). Loads (address regs c) (width_of c) ∷ []) cells

-- what a hart has where the check has passed with these turns
pub record HasPassed (c : Check) (regs : List ℕ) (m : List Area) (h : Hart) (place : ℕ) (t : Turns) (now : Hart)
    : Type 0 where
  pub arrived : Arrives regs m place now
  pub log : now.log ≡ h.log ++ cell_loads regs c.cells.list.items
  pub turns : slice_index now.slots 23 ≡ t.root - 1
  pub passes : (k : ℕ) → suc k < length c.trips → slice_index now.slots (24 + k) ≡ slice_index t.inner k - 1
  pub cells : (k : ℕ) → k < length c.cells.list.items
      → slice_index now.slots k ≡ content_of regs (cell_at c.cells.list.items k) m

-- where the run comes to: the end of the words with these turns, or the target with none
abbrev pub ComesBy : Check → List ℕ → List Area → List ℕ → Hart → ℕ → ℕ → Option Turns → Type 0
ComesBy c regs m code h end to (Some t) = (n : ℕ) × HasPassed c regs m h end t (run code n h)
ComesBy c regs m code h end to None = (n : ℕ) × Arrives regs m to (run code n h)

-- where the words are all the code, the run comes to their end exactly where the check tells turns, and to a target
-- behind them exactly where it tells none
pub record TellsTests (c : Check) (regs : List ℕ) (m : List Area) (code : List ℕ) (h : Hart) (end out : ℕ)
    : Type 0 where
  pub passes : ((n : ℕ) × ((run code n h).pc ≡ place_address end)) ↔ ((t : Turns) × (answer c regs m ≡ Some t))
  pub fails : ((n : ℕ) × ((run code n h).pc ≡ place_address out)) ↔ (answer c regs m ≡ None)

-- wherever these words stand, and where they stand alone, they tell what the check tells
pub record TellsCheck (c : Check) (words : List ℕ) : Type 0 where
  pub by : (regs : List ℕ) (m : List Area) (code : List ℕ) (p out to k : ℕ) (h : Hart) → IsArrival c regs m
      → length code ≤ 2 ^ 32 → out ≤ 2 ^ 32 → out + k ≡ to + p → WordsAt code p to k words → Arrives regs m p h
      → ComesBy c regs m code h (p + length words) out (answer c regs m)
  pub exactly : (regs : List ℕ) (m : List Area) (code : List ℕ) (out : ℕ) (h : Hart) → IsArrival c regs m
      → length code ≡ length words → length code < out → out ≤ 2 ^ 32 → WordsAt code 0 out 0 words → Arrives regs m 0 h
      → TellsTests c regs m code h (length words) out
