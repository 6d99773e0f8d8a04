use Rattle.std.proofs.Common.{[], take}
use Rattle.loop_shapes.specs.Edges.{IsEdgeFrom}
use Rattle.loop_shapes.specs.Gains.{Gained}
use Rattle.loop_shapes.specs.Net.{graph_of}
use Rattle.loop_shapes.proofs.Gains.{Among}
use Rattle.loop_shapes.proofs.edges.edges.Given as goal

abbrev pub invariant-loop-x : goal.invariant-loop-x
invariant-loop-x l = Gained (Among (IsEdgeFrom (graph_of l.net) l.to l.inside) (take l.x-index l.from)) [] l.all.items
