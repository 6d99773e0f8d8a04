use Rattle.std.proofs.Common.{ℕ, ◌<◌, ◌≤◌, get_or}
use Rattle.std.specs.List.{Contains}
use Rattle.loop_shapes.proofs.line.least_place.Given as goal

abbrev pub invariant-loop-x : goal.invariant-loop-x
invariant-loop-x l = Contains l.row l.least × ((k : ℕ) → k < l.x-index → l.least ≤ get_or l.row k 0)
