use Rattle.std.proofs.Common.{refl}
use Rattle.outliner.proofs.Appends.{moving_turn, moving_end}
use Rattle.outliner.proofs.turns.push_advances.Goals as goal

pub loop-k-preserved : goal.loop-k-preserved
loop-k-preserved c = λ fin h. c.loop-k.invariant fin (moving_turn _ _ fin c.args.classes.now c.loop-k.k _ c.loop-k-test.true refl c.in_ok-push_class.ensures h)

pub returns : goal.returns
returns c = c.loop-k.invariant _ (moving_end _ c.args.classes.now c.loop-k.k c.loop-k-test.false)
