use Rattle.std.proofs.Common.{take}
use Rattle.loop_shapes.specs.Around.{AreAroundSoFar}
use Rattle.loop_shapes.specs.Net.{AreClosedOf, graph_of}
use Rattle.loop_shapes.proofs.closed.closed_row.Given as goal

abbrev pub invariant-loop-source : goal.invariant-loop-source
invariant-loop-source l = AreClosedOf (graph_of l.net) l.header (take l.source-index l.source-items) l.row.items × AreAroundSoFar (graph_of l.net) l.header l.row.items l.around
