use Rattle.alias_checks.specs.Areas.{in_bounds}
use Rattle.alias_checks.specs.CellTests.{cell_fits}
use Rattle.alias_checks.proofs.CellFits.{all_low}
use Rattle.alias_checks.proofs.Elements.{all_passed}
use Rattle.alias_checks.proofs.cell_tests.all_fit.Goals as goal

pub returns-clause-low : goal.returns-clause-low
returns-clause-low c =
    λ _. all_low (in_bounds c.args.areas.now) c.args.regs.now c.args.cells.now
    (all_passed (cell_fits (in_bounds c.args.areas.now) c.args.regs.now) c.args.cells.now c.loop-cell.cell-index
    c.loop-cell-test.false c.loop-cell.invariant)
    c.requires
