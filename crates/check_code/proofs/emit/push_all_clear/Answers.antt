use Rattle.check_code.proofs.Emitted.{clear_turn, clear_end}
use Rattle.check_code.proofs.emit.push_all_clear.Goals as goal

pub loop-i-preserved : goal.loop-i-preserved
loop-i-preserved c = λ fin h. c.loop-i.invariant fin (clear_turn _ _ fin c.args.cells.now c.loop-i.i _ c.loop-i-test.true c.in_ok-push_clear_row.ensures h)

pub returns : goal.returns
returns c = c.loop-i.invariant _ (clear_end _ c.args.cells.now c.loop-i.i c.loop-i-test.false)
