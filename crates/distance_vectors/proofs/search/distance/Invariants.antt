use Rattle.std.proofs.Common.{◌<◌}
use Rattle.std.specs.Int.RustNames.{unsigned_abs}
use Rattle.distance_vectors.specs.Distances.{Vector, MeetAt, IsInBox}
use Rattle.distance_vectors.proofs.search.distance.Given as goal

abbrev pub invariant-loop-root : goal.invariant-loop-root
invariant-loop-root l =
    (k : Vector) → IsInBox l.a l.b k → unsigned_abs k.root < l.root → MeetAt l.a l.b k → ⊥
