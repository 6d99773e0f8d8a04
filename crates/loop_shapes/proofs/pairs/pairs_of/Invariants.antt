use Rattle.loop_data.specs.Flows.{rows}
use Rattle.loop_shapes.proofs.PairRows.{ArePairsBelow}
use Rattle.loop_shapes.proofs.pairs.pairs_of.Given as goal

abbrev pub invariant-loop-i : goal.invariant-loop-i
invariant-loop-i l = ArePairsBelow (rows l.all) l.i l.pairs.items
