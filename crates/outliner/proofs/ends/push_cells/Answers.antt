use Rattle.outliner.proofs.Appends.{written_turn, written_end}
use Rattle.outliner.proofs.ends.push_cells.Goals as goal

pub loop-k-preserved : goal.loop-k-preserved
loop-k-preserved c = λ fin h. c.loop-k.invariant fin (written_turn _ _ fin c.args.cells.now c.loop-k.k _ c.loop-k-test.true c.in_ok-push_stored.ensures h)

pub returns : goal.returns
returns c = c.loop-k.invariant _ (written_end _ c.args.cells.now c.loop-k.k c.loop-k-test.false)
