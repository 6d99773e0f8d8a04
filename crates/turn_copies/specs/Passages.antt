-- One passage through the copies of a loop's words is one of its turns.
use Rattle.std.specs.Prelude.{ℕ, zero, suc, ◌≡◌, ◌≢◌, ◌==◌, ◌||◌, ◌+◌, ◌-◌, ◌%◌, ◌^◌, ◌<◌, ◌≤◌, Bool, true, false, List, [], ◌++◌, length, Option, Some, None, slice_index}
use Rattle.rv64_decode.specs.Area.{number_at, bytes_of}
use Rattle.rv64_decode.specs.Ask.{Ask, Nothing}
use Rattle.rv64_decode.specs.Hart.{Hart, address, logged, run}
use Rattle.rv64_decode.specs.Registers.{register}
use Rattle.loop_data.specs.declared.shape.Level.{Level}
use Rattle.loop_data.specs.declared.verdict.Cell.{Cell}
use Rattle.loop_data.specs.Independent.{Role, Private, in_cell}
use Rattle.loop_data.specs.Locations.{CellMap, cell_at, address as cell_address, width_of, first_cell}
use Rattle.loop_data.specs.LoopCode.{LoopCode}
use Rattle.loop_data.specs.Runs.{State, run as run_state, walk, access}
use Rattle.loop_data.specs.Turns.{turn, IsArrival, Reads}
use Rattle.stub_laws.specs.Harts.{IsHartAt}
use Rattle.turn_copies.specs.Memories.{Agree, replayed}
use Rattle.turn_copies.specs.Copies.{Placed, Placing, Copies}
use Rattle.turn_copies.specs.StubCode.{next_code, join_place}
use Rattle.turn_copies.specs.Bodies.{IsBody, IsDivided}

-- what a slot says of its cell's bytes: those of 8, or the low 4
abbrev pub in_slot : Bool → ℕ → ℕ
in_slot true v = v
in_slot false v = v % 2 ^ 32

-- a hart has the registers and cells of visit n, the cells in its slots, as far as a location is known
pub record HasLocations (C : CellMap) (s : State) (n : ℕ) (known : ℕ → Type 0) (h : Hart) : Type 0 where
  pub registers : (r : ℕ) → r < 32 → known r → register h.regs r ≡ register (run_state s n).regs r
  pub cells : (k : ℕ) (c : Cell) → cell_at C.cells k ≡ Some c → known (first_cell + k)
      → in_slot c.wide (slice_index h.slots k)
      ≡ number_at (bytes_of (width_of c)) (run_state s n).memory (cell_address s.regs c)

-- the byte is in no cell that the loop stores to
abbrev pub IsUnstored : CellMap → State → ℕ → Type 0
IsUnstored C s b = (k : ℕ) (c : Cell) → cell_at C.cells k ≡ Some c → c.stored ≡ true → in_cell s c b ≡ false

-- turn t reads the byte, and it is in no such cell
abbrev pub ReadsUnstored : Level → CellMap → State → ℕ → ℕ → Type 0
ReadsUnstored l C s t b = Reads l s t b × IsUnstored C s b

-- the access of visit n, if it is none of a cell
abbrev pub unless_of_cell : Option ℕ → Ask → Ask
unless_of_cell None ask = ask
unless_of_cell (Some k) ask = Nothing

abbrev pub outside_access : CellMap → State → ℕ → Ask
outside_access C s n = unless_of_cell (C.uses (walk s n)) (access (run_state s n))

-- the accesses of n visits from visit a on that are none of cells
abbrev pub accesses_from : CellMap → State → ℕ → ℕ → List Ask
accesses_from C s a zero = []
accesses_from C s a (suc n) = logged (accesses_from C s a n) (outside_access C s (a + n))

-- those from visit a up to visit b
abbrev pub accesses_between : CellMap → State → ℕ → ℕ → List Ask
accesses_between C s a b = accesses_from C s a (b - a)

-- the visits from an arrival up to the next one are those of its turn
abbrev pub VisitsLaw : Type 0
VisitsLaw = (l : Level) (s : State) (t a b n : ℕ) → IsArrival l s t a → IsArrival l s (suc t) b → a ≤ n → n < b
    → turn l s n ≡ t

-- a hart has come to the first copy, with the locations of arrival t at visit a. Private ones may hold anything, and
-- its memory any bytes that the turn does not read or that are a stored cell's
pub record Begins (l : Level) (B : LoopCode) (roles : ℕ → Role) (s : State) (t a place : ℕ) (h : Hart) : Type 0 where
  pub at : IsHartAt place h
  pub holds : HasLocations B.cells s a (λ r. roles r ≢ Private) h
  pub memory : Agree (ReadsUnstored l B.cells s t) (run_state s a).memory h.memory

-- slots that may change beside those of cells: none, or the two that count turns
abbrev pub no_slot : ℕ → Bool
no_slot k = false

abbrev pub counting_slot : ℕ → Bool
counting_slot k = k == 28 || k == 29

-- a hart has come from the first to a place with all locations of visit b: it made the accesses of the visits from a on
-- that are none of cells, and has changed memory by these alone
pub record Passed (C : CellMap) (s : State) (a b : ℕ) (touched : ℕ → Bool) (h : Hart) (place : ℕ) (now : Hart)
    : Type 0 where
  pub at : now.pc ≡ address place
  pub holds : HasLocations C s b (λ r. Unit {0}) now
  pub slots : (k : ℕ) → k < 32 → cell_at C.cells k ≡ None → touched k ≡ false
      → slice_index now.slots k ≡ slice_index h.slots k
  pub log : now.log ≡ h.log ++ accesses_between C s a b
  pub memory : now.memory ≡ replayed h.memory (accesses_between C s a b)

-- from the first copy a hart comes to the place behind the turn
abbrev pub PassageLaw : Type 0
PassageLaw = (code : List ℕ) (l : Level) (B : LoopCode) (roles : ℕ → Role) (s : State) (p t a b : ℕ) (c : Placing)
    (h : Hart) → IsBody l B → IsDivided l B roles s p → length code ≤ 2 ^ 32 → Copies code l B c → t < p
    → IsArrival l s t a → IsArrival l s (suc t) b → Begins l B roles s t a (c.place l.header) h
    → (n : ℕ) × Passed B.cells s a b no_slot h c.next (run code n h)

-- and from there goes on, turn by turn, until it has none left: where it begins on the first memory, turn i, with n + 1
-- turns left, it comes to the join with the locations of arrival i + n + 1
abbrev pub TurnsLaw : Type 0
TurnsLaw = (code : List ℕ) (l : Level) (B : LoopCode) (roles : ℕ → Role) (s : State) (p i n a b : ℕ) (c : Placing)
    (h : Hart) → IsBody l B → IsDivided l B roles s p → length code ≤ 2 ^ 32 → Copies code l B c
    → Placed code c.next (next_code c.next (c.place l.header)) → i + suc n ≤ p → n < 2 ^ 32
    → IsArrival l s i a → IsArrival l s (i + suc n) b → IsHartAt (c.place l.header) h
    → HasLocations B.cells s a (λ r. roles r ≢ Private) h → h.memory ≡ s.memory → slice_index h.slots 28 ≡ suc n
    → (k : ℕ) × Passed B.cells s a b counting_slot h (join_place c.next) (run code k h)
