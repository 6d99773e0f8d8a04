-- The turns that a held check tells are independent, but for the bytes outside the cells.
use Rattle.std.proofs.Common.{◌≡◌, ◌≢◌, ℕ, suc, ◌<◌, true, false, Some, None, ap, ◌∙◌, arith}
use Rattle.std.proofs.lemmas.Int.{ints}
use Rattle.rv64_decode.specs.Area.{why, writable_of}
use Rattle.loop_data.specs.declared.verdict.Cell.{Cell}
use Rattle.loop_data.specs.Independent.{AreTurns, AreCells, in_cell}
use Rattle.loop_data.specs.Locations.{cell_at, address, width_of}
use Rattle.loop_data.specs.Lookups.{cell_map, use_of}
use Rattle.loop_data.specs.Runs.{run, walk, goes_at, access}
use Rattle.loop_data.specs.Turns.{turn, loads_byte, stores_byte, Leaves}
use Rattle.loop_data.proofs.Tests.{yes_no}
use Rattle.alias_checks.specs.CellTests.{cell_permission, cell_range}
use Rattle.alias_checks.specs.Holds.{CellHolds}
use Rattle.loop_choice.proofs.RunAreas.{allowed_in}
use Rattle.loop_choice.proofs.Tasks.{Task, all_at, cell_among}
use Rattle.loop_choice.proofs.TurnsEnd.{fine_below, arrival_of}
use Rattle.loop_choice.proofs.Visits.{fine_next, at_visit, inside_next, granted_is, own_access, off_cell, unwritten_cell, write_permits}

module _ (k : Task) where
  -- the turns exist and execute words of the loop
  pub are_turns : AreTurns k.nest.root k.state k.turns.root
  are_turns =
      record {
        exist = λ t le. arrival_of k t le;
        inside = λ n lt. (fine_below k n lt).executes.inside n (omega arith);
        onward = λ n lt. ap (goes_at (λ pc. true)) (at_visit k (suc n) (fine_next k n (fine_below k n lt) lt));
      }

  -- the cells' bytes
  pub are_cells : AreCells k.nest.root (cell_map k.cells) k.state k.turns.root
  are_cells =
      record {
        own = λ n j c lt e q. own_access k n (fine_below k n lt) lt j c e q;
        touched = touched;
        written = λ n j b c lt q never inside. ap (λ a. stores_byte a b) (granted_is k n (fine_below k n lt) lt) ∙ unwritten_cell k n (fine_below k n lt) lt j b c q never inside;
      }
    where
      touched : (n j b : ℕ) (c : Cell) → turn k.nest.root k.state n < k.turns.root → cell_at k.cells.list.items j ≡ Some c → c.stored ≡ true → use_of k.cells.uses.items (walk k.state n) ≢ Some j → in_cell k.state c b ≡ true
          → (loads_byte (access (run k.state n)) b ≡ false) × (stores_byte (access (run k.state n)) b ≡ false)
      touched n j b c lt q stored ne inside =
          let f = fine_below k n lt in
          let off = off_cell k n f lt j b c q ne inside in
          let g = granted_is k n f lt in
          (ap (λ a. loads_byte a b) g ∙ off.1 stored, ap (λ a. stores_byte a b) g ∙ off.0)

  -- no turn below that number leaves
  pub none_leaves : (n : ℕ) → turn k.nest.root k.state n < k.turns.root → ¬ Leaves k.nest.root k.state n
  none_leaves n lt leaves = yes_no _ (inside_next k n (fine_below k n lt) lt) leaves.out

-- a cell that the check has tested
pub stored_cell : (k : Task) (j : ℕ) (c : Cell) → cell_at k.cells.list.items j ≡ Some c → c.stored ≡ true → why writable_of k.state.memory (address k.state.regs c) (width_of c) ≡ None
stored_cell k j c e stored =
    let i = cell_among k.cells.list.items j c e in
    let h : CellHolds k.state.regs k.state.memory c = all_at (CellHolds k.state.regs k.state.memory) k.cells.list.items c k.tested.cells_hold (j, i.0, i.1) in
    allowed_in writable_of (cell_permission c) k.state.memory (cell_range k.state.regs c) (address k.state.regs c) (width_of c) (λ a p. write_permits c.stored a stored p) k.lie h.lies h.aligned (omega (arith, ints)) (omega (arith, ints))
