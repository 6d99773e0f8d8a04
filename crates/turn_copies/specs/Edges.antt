-- Where added code begins and ends: the registers that it works with are saved and restored, and cells are written back.
use Rattle.std.specs.Prelude.{ℕ, suc, if◌then◌else◌, ◌≡◌, ◌-◌, ◌^◌, ◌<◌, ◌≤◌, ◌||◌, nat_lt, Bool, true, List, [], ◌∷◌, ◌++◌, length, Some, None, pos, slice_index}
use Rattle.rv64_decode.specs.Area.{why, writable_of}
use Rattle.rv64_decode.specs.Ask.{Ask, Stores}
use Rattle.rv64_decode.specs.Hart.{Hart, address, fetched, run}
use Rattle.rv64_decode.specs.Registers.{register}
use Rattle.rv64_decode.specs.declared.xinstr.XInstr.TheVariants.{Back}
use Rattle.loop_data.specs.declared.shape.Level.{Level}
use Rattle.loop_data.specs.declared.verdict.Cell.{Cell}
use Rattle.loop_data.specs.Independent.{Role, Keeps}
use Rattle.loop_data.specs.Locations.{CellMap, cell_at, address as cell_address, width_of}
use Rattle.loop_data.specs.LoopCode.{LoopCode}
use Rattle.loop_data.specs.Runs.{State, run as run_state}
use Rattle.loop_data.specs.Turns.{IsArrival}
use Rattle.stub_laws.specs.Harts.{IsHartAt}
use Rattle.stub_laws.specs.Locations.{held}
use Rattle.stub_laws.specs.Places.{behind}
use Rattle.turn_copies.specs.Memories.{Agree}
use Rattle.turn_copies.specs.Copies.{Placed}
use Rattle.turn_copies.specs.Bodies.{IsBody, IsDivided}
use Rattle.turn_copies.specs.StubCode.{save_code, restore_code, refuse_code, write_back_code, leave_code}
use Rattle.turn_copies.specs.Passages.{HasLocations, IsUnstored}

-- slots that hold no register of added code
abbrev pub is_other_slot : ℕ → Bool
is_other_slot k = nat_lt k 16 || nat_lt 22 k

-- a hart has come from the first to a place, with each register where added code looks for it
pub record Saved (h : Hart) (place : ℕ) (now : Hart) : Type 0 where
  pub at : now.pc ≡ address place
  pub registers : (r : ℕ) → r < 32 → held now r ≡ register h.regs r
  pub slots : (k : ℕ) → k < 32 → is_other_slot k ≡ true → slice_index now.slots k ≡ slice_index h.slots k
  pub memory : now.memory ≡ h.memory
  pub log : now.log ≡ h.log

abbrev pub SaveLaw : Type 0
SaveLaw = (code : List ℕ) (q : ℕ) (h : Hart) → length code ≤ 2 ^ 32 → Placed code q save_code → IsHartAt q h
    → (n : ℕ) × Saved h (behind q save_code) (run code n h)

-- a hart has come to the word that leaves the added code, with the registers where they belong
pub record Restored (code : List ℕ) (h : Hart) (place : ℕ) (now : Hart) : Type 0 where
  pub at : now.pc ≡ address place
  pub leaves : fetched code (address place) ≡ Some Back
  pub registers : (r : ℕ) → r < 32 → register now.regs r ≡ held h r
  pub slots : (k : ℕ) → k < 32 → slice_index now.slots k ≡ slice_index h.slots k
  pub memory : now.memory ≡ h.memory
  pub log : now.log ≡ h.log

abbrev pub RefuseLaw : Type 0
RefuseLaw = (code : List ℕ) (q : ℕ) (h : Hart) → length code ≤ 2 ^ 32 → Placed code q refuse_code → IsHartAt q h
    → (n : ℕ) × Restored code h (behind q restore_code) (run code n h)

-- the stores of cells, by what their slots hold, from number k on
abbrev pub stores_back : List ℕ → (ℕ → ℕ) → ℕ → List Cell → List Ask
stores_back entry slots k [] = []
stores_back entry slots k (c ∷ cs) =
    (if c.stored then Stores (cell_address entry c) (width_of c) (slots k) ∷ [] else [])
    ++ stores_back entry slots (suc k) cs

-- a stored cell has a base that no turn changes, or an address that two instructions reach, and may be stored to
pub record CanWriteBack (C : CellMap) (roles : ℕ → Role) (s : State) : Type 0 where
  pub base : (k r : ℕ) (c : Cell) → cell_at C.cells k ≡ Some c → c.stored ≡ true → c.base ≡ Some r → roles r ≡ Keeps
  pub near : (k : ℕ) (c : Cell) → cell_at C.cells k ≡ Some c → c.stored ≡ true → c.base ≡ None
      → (n : ℕ) × (c.offset ≡ pos n) × (n < 2 ^ 31 - 2 ^ 11)
  pub allowed : (k : ℕ) (c : Cell) → cell_at C.cells k ≡ Some c → c.stored ≡ true
      → why writable_of s.memory (cell_address s.regs c) (width_of c) ≡ None

-- a hart has come to the word that leaves the added code with the registers and all bytes of visit b
pub record Left (code : List ℕ) (C : CellMap) (s : State) (b : ℕ) (h : Hart) (place : ℕ) (now : Hart) : Type 0 where
  pub at : now.pc ≡ address place
  pub leaves : fetched code (address place) ≡ Some Back
  pub registers : (r : ℕ) → r < 32 → register now.regs r ≡ register (run_state s b).regs r
  pub memory : Agree (λ z. Unit {0}) now.memory (run_state s b).memory
  pub log : now.log ≡ h.log ++ stores_back s.regs (slice_index h.slots) 0 C.cells

-- behind the join: with the locations of an arrival, and the bytes that are in no stored cell
abbrev pub LeaveLaw : Type 0
LeaveLaw = (code : List ℕ) (l : Level) (B : LoopCode) (roles : ℕ → Role) (s : State) (p t b q : ℕ) (h : Hart)
    → IsBody l B → IsDivided l B roles s p → CanWriteBack B.cells roles s → length code ≤ 2 ^ 32
    → Placed code q (leave_code B.cells.cells) → t ≤ p → IsArrival l s t b → IsHartAt q h
    → HasLocations B.cells s b (λ r. Unit {0}) h → Agree (IsUnstored B.cells s) h.memory (run_state s b).memory
    → (n : ℕ) × Left code B.cells s b h (behind q (write_back_code 0 B.cells.cells)) (run code n h)
