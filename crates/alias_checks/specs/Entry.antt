-- The values of a loop's locations where it is entered, and the forms over them.
use Rattle.std.specs.Prelude.{ℕ, ◌≡◌, ◌<◌, ◌≤◌, None, slice_index, ◌-◌, nat_lt, if◌then◌else◌, List, length, ℤ, pos}
use Rattle.rv64_decode.specs.Area.{Area, why, readable_of}
use Rattle.rv64_decode.specs.Registers.{register}
use Rattle.linear_forms.specs.Forms.{LinearForm, value}
use Rattle.loop_data.specs.declared.verdict.Cell.{Cell}
use Rattle.loop_data.specs.Locations.{first_cell, cell_at, held, address, width_of}
use Rattle.alias_checks.specs.CellTests.{HasRegister}

-- a location's value: a register's, or that of the cell with this number
abbrev pub entry_value : List Cell → List ℕ → List Area → ℕ → ℕ
entry_value cells regs m r =
    if nat_lt r first_cell then register regs r else held regs (cell_at cells (r - first_cell)) m

unfoldable pub entry : List Cell → List ℕ → List Area → ℕ → ℤ
entry cells regs m r = pos (entry_value cells regs m r)

-- a form's value at turn numbers 0, as a word
unfoldable pub start_value : LinearForm → (ℕ → ℤ) → ℕ
start_value f e = value f e (λ k. 0)

-- the list has room for all locations; up to this place it has a function's values, and behind them 0
pub record IsFilled (f : ℕ → ℕ) (to : ℕ) (xs : List ℕ) : Type 0 where
  pub room : length xs ≡ 48
  pub at : (k : ℕ) → k < to → slice_index xs k ≡ f k
  pub behind : (k : ℕ) → to ≤ k → slice_index xs k ≡ 0

-- the bytes of a cell may be read
pub record IsReadable (regs : List ℕ) (m : List Area) (c : Cell) : Type 0 where
  pub register : HasRegister c.base
  pub readable : why readable_of m (address regs c) (width_of c) ≡ None
