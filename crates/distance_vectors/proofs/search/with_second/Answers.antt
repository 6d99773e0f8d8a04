use Rattle.std.proofs.Common.{◌≤◌, arith}
use Rattle.distance_vectors.specs.Distances.{inner_limit}
use Rattle.distance_vectors.proofs.Firsts.{found_third}
use Rattle.distance_vectors.proofs.search.with_second.Goals as goal

pub returns-in-Some : goal.returns-in-Some
returns-in-Some c =
    let e = c.inner_limit-last.ensures.value in
    let h : c.loop-third.third ≤ inner_limit c.args.a.now c.args.b.now 2 = omega arith in
    found_third c.args.a.now c.args.b.now c.args.root c.args.second c.loop-third.third _ _ h c.in-Some.ensures
    c.loop-third.invariant
