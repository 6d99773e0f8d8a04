use Rattle.std.proofs.Common.{◌-◌, length}
use Rattle.loop_shapes.specs.Net.{graph_of}
use Rattle.loop_shapes.proofs.Reaching.{Reaching}
use Rattle.loop_shapes.proofs.reach.reached_within.Given as goal

abbrev pub invariant-loop-next : goal.invariant-loop-next
invariant-loop-next l = Reaching (graph_of l.net) l.set l.start l.next l.reached.items

abbrev pub decreases-loop-next : goal.decreases-loop-next
decreases-loop-next l = length l.set - l.next
