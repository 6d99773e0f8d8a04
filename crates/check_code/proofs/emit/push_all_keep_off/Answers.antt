use Rattle.std.specs.Prelude.{flat_map}
use Rattle.loop_data.specs.declared.verdict.Cell.{Cell}
use Rattle.check_code.specs.MeetCode.{keep_off_code}
use Rattle.check_code.proofs.Emitted.{map_turn, map_end}
use Rattle.check_code.proofs.emit.push_all_keep_off.Goals as goal

pub loop-cell-preserved : goal.loop-cell-preserved
loop-cell-preserved c = λ fin h.
    c.loop-cell.invariant fin (map_turn (λ (d : Cell). flat_map (keep_off_code d) c.args.accesses.now) _ _ fin c.args.cells.now c.loop-cell.cell-index _ c.loop-cell-test.true c.in_ok-push_keep_off_row.ensures h)

pub returns : goal.returns
returns c = c.loop-cell.invariant _ (map_end (λ (d : Cell). flat_map (keep_off_code d) c.args.accesses.now) _ c.args.cells.now c.loop-cell.cell-index c.loop-cell-test.false)
