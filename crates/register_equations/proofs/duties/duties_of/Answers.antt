use Rattle.std.proofs.Common.{sym, arith}
use Rattle.register_equations.proofs.DutyLists.{duty_more}
use Rattle.register_equations.proofs.duties.duties_of.Goals as goal

pub add_duty-requires-clause-held : goal.add_duty-requires-clause-held
add_duty-requires-clause-held c = let t = c.loop-i-test.true in let e = c.len-i-end.ensures in c.requires.held c.loop-i.i (omega arith)

pub loop-i-preserved : goal.loop-i-preserved
loop-i-preserved c =
    let t = c.loop-i-test.true in
    let e = c.len-i-end.ensures in
    duty_more c.args.flow.now c.args.levels.now c.args.points.now c.loop-i.i c.loop-i.duties.items c.add_duty.new.duties.items c.owed_at-owed.result c.requires.ordered (omega arith) (sym c.owed_at-owed.ensures)
    c.in_ok-add_duty.ensures c.loop-i.invariant
