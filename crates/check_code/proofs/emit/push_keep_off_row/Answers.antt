use Rattle.check_code.specs.MeetCode.{keep_off_code}
use Rattle.check_code.proofs.Emitted.{map_item, map_end}
use Rattle.check_code.proofs.emit.push_keep_off_row.Goals as goal

pub loop-access-preserved : goal.loop-access-preserved
loop-access-preserved c = λ fin h.
    c.loop-access.invariant fin (map_item (keep_off_code c.args.cell.now) _ _ fin c.args.accesses.now c.loop-access.access-index c.access-item.result c.loop-access-test.true c.access-item.is c.in_ok-push_keep_off.ensures h)

pub returns : goal.returns
returns c = c.loop-access.invariant _ (map_end (keep_off_code c.args.cell.now) _ c.args.accesses.now c.loop-access.access-index c.loop-access-test.false)
