use Rattle.std.proofs.Common.{◌+◌, length, ap, sym, subst, arith}
use Rattle.loop_data.specs.Lookups.{form_at}
use Rattle.loop_choice.proofs.Outcomes.{AreTripsTo, trip_more, first_without}
use Rattle.loop_choice.proofs.trips.trips_of.Goals as goal

pub returns-in-Err-clause-none : goal.returns-in-Err-clause-none
returns-in-Err-clause-none c =
    let e = ap length c.as_slice-level-end.ensures in
    let t = c.loop-level-test.true in
    first_without c.args.graph.now c.args.shape.now.levels (form_at c.args.equations.now.points) c.loop-level.level
    c.in-Err.none.at c.loop-level.trips.items (omega arith) c.loop-level.invariant c.in-Err.ensures.none
    c.in-Err.ensures.at

pub loop-level-preserved : goal.loop-level-preserved
loop-level-preserved c =
    let G = c.args.graph.now in
    let levels = c.args.shape.now.levels in
    let at = form_at c.args.equations.now.points in
    let n = c.loop-level.level in
    subst (AreTripsTo G levels at (n + 1)) (sym c.in_ok-push-in-Ok.ensures.items)
    (trip_more G levels at n c.loop-level.trips.items c.in-Ok.found c.loop-level.invariant c.in-Ok.ensures.trip)
