use Rattle.check_code.specs.CellCode.{clear_code}
use Rattle.check_code.proofs.Emitted.{map_turn, map_end}
use Rattle.check_code.proofs.emit.push_clear_row.Goals as goal

pub loop-other-preserved : goal.loop-other-preserved
loop-other-preserved c = λ fin h.
    c.loop-other.invariant fin (map_turn (clear_code c.args.cell.now) _ _ fin c.args.others.now c.loop-other.other-index _ c.loop-other-test.true c.in_ok-push_clear.ensures h)

pub returns : goal.returns
returns c = c.loop-other.invariant _ (map_end (clear_code c.args.cell.now) _ c.args.others.now c.loop-other.other-index c.loop-other-test.false)
