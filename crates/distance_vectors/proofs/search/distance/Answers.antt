use Rattle.std.proofs.Common.{arith}
use Rattle.distance_vectors.proofs.Firsts.{found_root}
use Rattle.distance_vectors.proofs.search.distance.Goals as goal

pub returns-in-Some-clause-some : goal.returns-in-Some-clause-some
returns-in-Some-clause-some c =
    found_root c.args.a.now c.args.b.now c.loop-root.root _ (omega arith) (omega arith) c.in-Some.ensures
    c.loop-root.invariant
