use Rattle.loop_shapes.specs.Edges.{IsEdgeFrom}
use Rattle.loop_shapes.specs.Net.{graph_of}
use Rattle.loop_shapes.proofs.Gains.{gained_none, gained_more, gained_all, gained_to}
use Rattle.loop_shapes.proofs.EdgeSets.{StepTo, edge_from}
use Rattle.loop_shapes.proofs.edges.add_edges.Goals as goal

pub loop-y-init : goal.loop-y-init
loop-y-init c = gained_none (StepTo c.args.x c.args.inside c.args.to.now) c.args.all.now.items

pub loop-y-preserved : goal.loop-y-preserved
loop-y-preserved c = gained_more (StepTo c.args.x c.args.inside c.args.to.now) c.steps_of-y-items.result.now c.loop-y.y-index c.args.all.now.items c.loop-y.all.items c.add_edge.new.all.items c.loop-y-test.true c.loop-y.invariant c.in_ok-add_edge.ensures

pub returns : goal.returns
returns c = gained_to _ (IsEdgeFrom (graph_of c.args.net.now) c.args.to.now c.args.inside c.args.x) c.args.all.now.items c.loop-y.all.items (edge_from (graph_of c.args.net.now) c.args.to.now c.args.inside c.args.x c.steps_of-y-items.result.now c.steps_of-y-items.ensures) (gained_all (StepTo c.args.x c.args.inside c.args.to.now) c.steps_of-y-items.result.now c.loop-y.y-index c.args.all.now.items c.loop-y.all.items c.loop-y-test.false c.loop-y.invariant)
