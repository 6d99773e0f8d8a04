-- What the cells of a loop promise to the passes that know them.
use Rattle.std.specs.Prelude.{ℕ, ◌≡◌, ◌<◌, ◌≤◌, ◌⊎◌, List, Option, Some, None, ℤ, pos, ◌≤ℤ◌, ◌<ℤ◌}
use Rattle.std.specs.List.{Contains}
use Rattle.rv64_decode.specs.Form.{IsSigned}
use Rattle.loop_data.specs.declared.cells.Cells.{Cells}
use Rattle.loop_data.specs.declared.graph.Graph.{Graph}
use Rattle.loop_data.specs.declared.shape.Level.{Level}
use Rattle.loop_data.specs.declared.verdict.Cell.{Cell}
use Rattle.loop_data.specs.declared.verdict.Verdict.{Verdict}
use Rattle.loop_data.specs.declared.verdict.Verdict.TheVariants.{Limit, MixedCell}
use Rattle.loop_data.specs.Accesses.{access_count}
use Rattle.loop_data.specs.Facts.{Fact}
use Rattle.loop_data.specs.FactPass.{AreFacts}
use Rattle.loop_data.specs.FoundCells.{AreFoundCells}
use Rattle.loop_data.specs.Locations.{no_cells, first_cell}
use Rattle.loop_data.specs.LoopCode.{code_of, IsUnwritten}
use Rattle.loop_data.specs.LoopWords.{AreNest}
use Rattle.loop_data.specs.Lookups.{cell_map, AreNumbered}
use Rattle.loop_data.specs.Nests.{Nest}
use Rattle.loop_data.specs.Results.{IsNestOf}
use Rattle.stack_slots.specs.Results.{AreCellsOf}

-- their uses are in order and have numbers of cells, of which there are at most 16
abbrev pub NumberedLaw : Type 0
NumberedLaw = (G : Graph) (levels : List Level) (c : Cells) → AreNest G levels → AreCellsOf G levels c
    → c.fault ≡ None → AreNumbered c

-- each use is a load or a store of its cell's width, at the address that the pass without cells tells
abbrev pub FoundLaw : Type 0
FoundLaw = (G : Graph) (levels : List Level) (c : Cells) (N : Nest) (V : ℕ → ℕ → Option Fact) → AreNest G levels
    → AreCellsOf G levels c → c.fault ≡ None → IsNestOf G levels N → AreFacts N (code_of G no_cells) N.root V
    → AreFoundCells N (code_of G (cell_map c)) V

-- the base of each cell is a register but x0 that no word of the root writes
abbrev pub BasesLaw : Type 0
BasesLaw = (G : Graph) (levels : List Level) (c : Cells) (N : Nest) → AreNest G levels → AreCellsOf G levels c
    → IsNestOf G levels N → (cell : Cell) → Contains c.list.items cell → (q : ℕ) → cell.base ≡ Some q
    → (1 ≤ q) × (q < first_cell) × IsUnwritten (code_of G (cell_map c)) N.root q

-- so many bytes from a base, or an address that is known: the one has room in an instruction, and the other, with the
-- bytes of a cell, below 2 ^ 31 - 2 ^ 11
abbrev pub HasOffset : Option ℕ → ℤ → Type 0
HasOffset None offset = (pos 0 ≤ℤ offset) × (offset <ℤ pos 0x7FFF_F800)
HasOffset (Some base) offset = IsSigned 12 offset

-- each cell stands so
abbrev pub OffsetsLaw : Type 0
OffsetsLaw = (G : Graph) (levels : List Level) (c : Cells) → AreNest G levels → AreCellsOf G levels c
    → (cell : Cell) → Contains c.list.items cell → HasOffset cell.base cell.offset

-- what the cells decide is a limit or a mixed pair
abbrev pub FaultLaw : Type 0
FaultLaw = (G : Graph) (levels : List Level) (c : Cells) (v : Verdict) → AreNest G levels → AreCellsOf G levels c
    → c.fault ≡ Some v → (at : ℕ) × ((v ≡ Limit at) ⊎ (v ≡ MixedCell at))

-- where they decide nothing, at most 32 words of the root access anything else
abbrev pub FewAccessesLaw : Type 0
FewAccessesLaw = (G : Graph) (levels : List Level) (c : Cells) (N : Nest) → AreNest G levels → AreCellsOf G levels c
    → c.fault ≡ None → IsNestOf G levels N → access_count (code_of G (cell_map c)) N.root.body ≤ 32
