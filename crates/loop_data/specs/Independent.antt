-- Turns that do not depend on each other.
use Rattle.std.specs.Prelude.{ℕ, suc, ◌≡◌, ◌≢◌, ◌≤◌, ◌<◌, Bool, true, false, ◌∷◌, Some, ℤ, pos, ◌+ℤ◌, ◌*ℤ◌}
use Rattle.rv64_decode.specs.Fetched.{instr_at}
use Rattle.rv64_decode.specs.Area.{bytes_of}
use Rattle.rv64_decode.specs.Ask.{Ask, Nothing, Loads, Stores}
use Rattle.rv64_decode.specs.declared.memory.Width.{Width}
use Rattle.linear_forms.specs.Forms.{word_of}
use Rattle.loop_data.specs.declared.shape.Level.{Level}
use Rattle.loop_data.specs.declared.verdict.Cell.{Cell}
use Rattle.loop_data.specs.Nests.{has}
use Rattle.loop_data.specs.Runs.{State, run, walk, goes_at, instr, access}
use Rattle.loop_data.specs.Turns.{arrives, turn, seen, IsArrival, covers, loads_byte, stores_byte, Reads, Writes}
use Rattle.loop_data.specs.Locations.{CellMap, cell_at, address, width_of, value_of, word_reads, some_writes}

-- what becomes of a location from turn to turn: it keeps its value, it moves on by a step, or it is
-- written anew in each turn
pub data Role : Type 0 where
  Keeps : Role
  Moves : (step : ℤ) → Role
  Private : Role

-- the first p turns exist, execute words of the loop alone, and meet no fault and no call
pub record AreTurns (l : Level) (s : State) (p : ℕ) : Type 0 where
  pub exist : (t : ℕ) → t ≤ p → (n : ℕ) × IsArrival l s t n
  pub inside : (n : ℕ) → turn l s n < p → goes_at (has l.body) (run s n).next ≡ true
  pub onward : (n : ℕ) → turn l s n < p → goes_at (λ pc. true) (run s (suc n)).next ≡ true

-- an access is one of so many bytes at this address
abbrev pub IsAccess : Ask → ℕ → Width → Type 0
IsAccess Nothing addr width = ⊥
IsAccess (Loads a w) addr width = (a ≡ addr) × (w ≡ width)
IsAccess (Stores a w value) addr width = (a ≡ addr) × (w ≡ width)

-- the byte is one of a cell's
abbrev pub in_cell : State → Cell → ℕ → Bool
in_cell s c b = covers (address s.regs c) (bytes_of (width_of c)) b

-- in the first p turns each access of a cell is one of its bytes, which stay where they are; the bytes of a
-- stored cell are touched by its own accesses alone, and those of another cell are not written
pub record AreCells (l : Level) (C : CellMap) (s : State) (p : ℕ) : Type 0 where
  pub own : (n k : ℕ) (c : Cell) → turn l s n < p → C.uses (walk s n) ≡ Some k → cell_at C.cells k ≡ Some c
      → IsAccess (access (run s n)) (address s.regs c) (width_of c)
  pub touched : (n k b : ℕ) (c : Cell) → turn l s n < p → cell_at C.cells k ≡ Some c → c.stored ≡ true
      → C.uses (walk s n) ≢ Some k → in_cell s c b ≡ true
      → (loads_byte (access (run s n)) b ≡ false) × (stores_byte (access (run s n)) b ≡ false)
  pub written : (n k b : ℕ) (c : Cell) → turn l s n < p → cell_at C.cells k ≡ Some c → c.stored ≡ false
      → in_cell s c b ≡ true → stores_byte (access (run s n)) b ≡ false

-- the byte lies in no cell
abbrev pub IsOutside : CellMap → State → ℕ → Type 0
IsOutside C s b = (k : ℕ) (c : Cell) → cell_at C.cells k ≡ Some c → in_cell s c b ≡ false

-- no byte outside the cells that one of the first p turns writes is read or written by another
pub record AreApart (l : Level) (C : CellMap) (s : State) (p : ℕ) : Type 0 where
  pub reads : (i j b : ℕ) → i < p → j < p → i ≢ j → Writes l s i b → IsOutside C s b → ¬ Reads l s j b
  pub writes : (i j b : ℕ) → i < p → j < p → i ≢ j → Writes l s i b → IsOutside C s b → ¬ Writes l s j b

-- each location has its role in the first p turns: at arrival t, which may be the p-th, it has its value
-- in s, or that and t steps more; a private one is written in each turn, and before it is read
pub record HaveRoles (l : Level) (C : CellMap) (roles : ℕ → Role) (s : State) (p : ℕ) : Type 0 where
  pub moved : (t n r : ℕ) (step : ℤ) → t ≤ p → IsArrival l s t n → roles r ≡ Moves step
      → value_of C s.regs (run s n) r ≡ word_of (pos (value_of C s.regs s r) +ℤ step *ℤ pos t)
  pub kept : (t n r : ℕ) → t ≤ p → IsArrival l s t n → roles r ≡ Keeps
      → value_of C s.regs (run s n) r ≡ value_of C s.regs s r
  pub written : (n r : ℕ) → turn l s n < p → arrives l s (suc n) ≡ true → roles r ≡ Private
      → some_writes C (instr_at s.memory) (walk s n ∷ seen l s n) r ≡ true
  pub before : (n r : ℕ) → turn l s n < p → roles r ≡ Private → word_reads C (walk s n) (instr (run s n)) r ≡ true
      → some_writes C (instr_at s.memory) (seen l s n) r ≡ true

-- the first p turns from s are independent
pub record Independent (l : Level) (C : CellMap) (roles : ℕ → Role) (s : State) (p : ℕ) : Type 0 where
  pub turns : AreTurns l s p
  pub cells : AreCells l C s p
  pub apart : AreApart l C s p
  pub locations : HaveRoles l C roles s p
