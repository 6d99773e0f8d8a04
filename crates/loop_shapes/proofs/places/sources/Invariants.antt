use Rattle.loop_shapes.specs.Places.{HasPredecessors}
use Rattle.loop_shapes.proofs.places.sources.Given as goal
use Rattle.loop_data.specs.Flows.{rows}

abbrev pub invariant-loop-i : goal.invariant-loop-i
invariant-loop-i l = HasPredecessors l.graph l.i (rows l.before.items)
