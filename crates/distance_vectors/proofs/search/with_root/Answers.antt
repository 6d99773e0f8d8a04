use Rattle.std.proofs.Common.{◌≤◌, arith}
use Rattle.distance_vectors.specs.Distances.{inner_limit}
use Rattle.distance_vectors.proofs.Firsts.{found_second}
use Rattle.distance_vectors.proofs.search.with_root.Goals as goal

pub returns-in-Some : goal.returns-in-Some
returns-in-Some c =
    let e = c.inner_limit-last.ensures.value in
    let h : c.loop-second.second ≤ inner_limit c.args.a.now c.args.b.now 1 = omega arith in
    found_second c.args.a.now c.args.b.now c.args.root c.loop-second.second _ _ _ h c.in-Some.ensures
    c.loop-second.invariant
