use Rattle.std.proofs.Common.{ℕ, ◌<◌, get_or}
use Rattle.std.specs.List.{Contains}
use Rattle.loop_shapes.specs.Entry.{IsBefore}
use Rattle.loop_shapes.proofs.entry.least_edge.Given as goal

abbrev pub invariant-loop-e : goal.invariant-loop-e
invariant-loop-e l = Contains l.all l.least × ((k : ℕ) (d : ℕ × ℕ) → k < l.e-index → IsBefore l.least (get_or l.all k d))
