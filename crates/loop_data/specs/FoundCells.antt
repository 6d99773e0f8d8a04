-- The cells of a loop as they are found, by the facts of the root's pass that knows no cells.
use Rattle.std.specs.Prelude.{ℕ, ◌≡◌, ◌<◌, true, Option, Some, None, ℤ}
use Rattle.rv64_decode.specs.Form.{IsSigned}
use Rattle.loop_data.specs.declared.verdict.Cell.{Cell}
use Rattle.loop_data.specs.Nests.{Nest, Holds}
use Rattle.loop_data.specs.Locations.{cell_at, first_cell, moves_cell}
use Rattle.loop_data.specs.LoopCode.{LoopCode, IsUnwritten}
use Rattle.loop_data.specs.Facts.{Fact, Number, Offset, fact_read, fact_sum}
use Rattle.loop_data.specs.Accesses.{Motion, motion_of}

-- the address of a cell, as a fact
abbrev pub address_by : Option ℕ → ℤ → Fact
address_by None z = Number z
address_by (Some q) z = Offset q z

abbrev pub address_fact : Cell → Fact
address_fact c = address_by c.base c.offset

-- a register that no word of the root writes
abbrev pub IsFixed : Nest → LoopCode → ℕ → Type 0
IsFixed N B q = (q < first_cell) × IsUnwritten B N.root q

abbrev pub HasFixedBase : Nest → LoopCode → Option ℕ → Type 0
HasFixedBase N B None = Unit {0}
HasFixedBase N B (Some q) = IsFixed N B q

-- the word at u loads or stores a cell of its width, at the address that the facts before it tell
pub record IsFoundUse (N : Nest) (B : LoopCode) (F : ℕ → Option Fact) (u k : ℕ) : Type 0 where
  pub cell : Cell
  pub at : cell_at B.cells.cells k ≡ Some cell
  pub width : moves_cell (B.instr u) cell.wide ≡ true
  pub moves : Motion
  pub is : motion_of (B.instr u) ≡ Some moves
  pub address : fact_sum (fact_read F moves.base) (Some (Number moves.offset)) ≡ Some (address_fact cell)
  pub base : HasFixedBase N B cell.base
  pub near : IsSigned 32 cell.offset

-- each word of the root that uses a cell is such a word, by the facts of the pass that knows no cells
abbrev pub AreFoundCells : Nest → LoopCode → (ℕ → ℕ → Option Fact) → Type 0
AreFoundCells N B V = (u k : ℕ) → Holds N.root u → B.cells.uses u ≡ Some k → IsFoundUse N B (V u) u k
