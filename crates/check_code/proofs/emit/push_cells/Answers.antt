use Rattle.check_code.proofs.Emitted.{cells_turn, cells_end}
use Rattle.check_code.proofs.emit.push_cells.Goals as goal

pub loop-k-preserved : goal.loop-k-preserved
loop-k-preserved c = λ fin h. c.loop-k.invariant fin (cells_turn c.args.areas.now _ _ fin c.args.cells.now c.loop-k.k _ c.loop-k-test.true c.in_ok-push_cell.ensures h)

pub returns : goal.returns
returns c = c.loop-k.invariant _ (cells_end c.args.areas.now _ c.args.cells.now c.loop-k.k c.loop-k-test.false)
