use Rattle.std.proofs.Common.{length}
use Rattle.loop_shapes.specs.Walk.{IsWalk, turns_left}
use Rattle.loop_shapes.proofs.walk.left_in_order.Given as goal

abbrev pub invariant-loop-place : goal.invariant-loop-place
invariant-loop-place l = IsWalk (length l.steps) l.walk

abbrev pub decreases-loop-place : goal.decreases-loop-place
decreases-loop-place l = turns_left (length l.steps) l.walk
