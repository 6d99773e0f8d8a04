use Rattle.std.proofs.Common.{◌-◌, length}
use Rattle.loop_shapes.specs.LoopBody.{body_graph, header_of}
use Rattle.loop_shapes.proofs.Leaving.{NoneLeft}
use Rattle.loop_shapes.proofs.exits.next_exit.Given as goal

abbrev pub invariant-loop-i : goal.invariant-loop-i
invariant-loop-i l = NoneLeft (body_graph l.body) (header_of l.body) l.body.places.now l.from l.i

abbrev pub decreases-loop-i : goal.decreases-loop-i
decreases-loop-i l = length l.body.places.now - l.i
