use Rattle.std.proofs.Common.{◌<◌, length, arith}
use Rattle.loop_shapes.proofs.Gains.{not_only}
use Rattle.loop_shapes.proofs.edges.only_place.Goals as goal

pub returns-then-f-e-clause-none : goal.returns-then-f-e-clause-none
returns-then-f-e-clause-none c =
    let l = c.loop-f-test.true in
    let some : 0 < length c.args.all.now = omega arith in
    not_only c.args.all.now c.loop-f.f-index 0 0 c.loop-f-test.true some c.if-f-e.true
