use Rattle.std.proofs.Common.{◌≡◌, drop}
use Rattle.std.specs.List.{list_all}
use Rattle.alias_checks.specs.Areas.{in_bounds}
use Rattle.alias_checks.specs.CellTests.{cell_fits}
use Rattle.alias_checks.proofs.cell_tests.all_fit.Given as goal

abbrev pub invariant-loop-cell : goal.invariant-loop-cell
invariant-loop-cell l =
    list_all (cell_fits (in_bounds l.areas) l.regs) (drop l.cell-index l.cells)
    ≡ list_all (cell_fits (in_bounds l.areas) l.regs) l.cells
