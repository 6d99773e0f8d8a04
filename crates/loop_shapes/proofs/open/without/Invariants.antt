use Rattle.loop_shapes.specs.Open.{AreCutBelow}
use Rattle.loop_shapes.proofs.open.without.Given as goal
use Rattle.loop_data.specs.Flows.{rows}

abbrev pub invariant-loop-to : goal.invariant-loop-to
invariant-loop-to l = AreCutBelow (rows l.all) l.to l.nodes l.left.items
