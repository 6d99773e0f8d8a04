use Rattle.std.proofs.Common.{◌≡◌, ◌<◌, pos}
use Rattle.std.specs.Int.RustNames.{unsigned_abs}
use Rattle.distance_vectors.specs.Distances.{Vector, MeetAt}
use Rattle.distance_vectors.proofs.search.with_second.Given as goal

abbrev pub invariant-loop-third : goal.invariant-loop-third
invariant-loop-third l =
    (k : Vector) → k.root ≡ pos l.root → unsigned_abs k.second ≡ l.second → unsigned_abs k.third < l.third
    → MeetAt l.a l.b k → ⊥
