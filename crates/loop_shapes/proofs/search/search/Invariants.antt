use Rattle.std.proofs.Common.{◌-◌}
use Rattle.loop_shapes.proofs.Searches.{Searching}
use Rattle.loop_shapes.proofs.search.search.Given as goal
use Rattle.loop_data.specs.Flows.{rows}

abbrev pub invariant-loop-next : goal.invariant-loop-next
invariant-loop-next l = Searching (rows l.before) l.header l.sources l.next l.found.items l.slots

abbrev pub decreases-loop-next : goal.decreases-loop-next
decreases-loop-next l = 256 - l.next
