use Rattle.std.proofs.Common.{length}
use Rattle.loop_shapes.specs.Walk.{AreBelow}
use Rattle.loop_shapes.proofs.walk.start_places.Given as goal

abbrev pub invariant-loop-place : goal.invariant-loop-place
invariant-loop-place l = AreBelow (length l.starts) l.all.items
