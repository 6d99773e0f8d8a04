use Rattle.std.proofs.Common.{take}
use Rattle.std.specs.List.{Contains}
use Rattle.loop_shapes.specs.Places.{AreFlags}
use Rattle.loop_shapes.proofs.places.mark_all.Given as goal

abbrev pub invariant-loop-x : goal.invariant-loop-x
invariant-loop-x l = AreFlags l.graph (Contains (take l.x-index l.xs)) l.flags
