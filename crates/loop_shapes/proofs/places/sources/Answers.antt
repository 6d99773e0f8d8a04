use Rattle.std.proofs.Common.{◌≡◌, ap, subst, length, ℕ, arith}
use Rattle.loop_shapes.specs.Places.{HasPredecessors, count_of}
use Rattle.loop_shapes.proofs.places.sources.Goals as goal
use Rattle.loop_data.specs.Flows.{rows}

pub returns : goal.returns
returns c =
    let same = ap length c.requires.addresses in
    let last : c.loop-i.i ≡ count_of c.args.graph.now = omega arith in
    subst (λ (n : ℕ). HasPredecessors c.args.graph.now n (rows c.loop-i.before.items)) last c.loop-i.invariant
