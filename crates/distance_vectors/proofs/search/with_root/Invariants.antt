use Rattle.std.proofs.Common.{◌≡◌, ◌<◌, ◌≤◌, pos}
use Rattle.std.specs.Int.RustNames.{unsigned_abs}
use Rattle.distance_vectors.specs.Distances.{Vector, MeetAt, inner_limit}
use Rattle.distance_vectors.proofs.search.with_root.Given as goal

abbrev pub invariant-loop-second : goal.invariant-loop-second
invariant-loop-second l =
    (k : Vector) → k.root ≡ pos l.root → unsigned_abs k.second < l.second
    → unsigned_abs k.third ≤ inner_limit l.a l.b 2 → MeetAt l.a l.b k → ⊥
