use Rattle.std.proofs.Common.{ℕ, List, [], sym, subst}
use Rattle.loop_shapes.specs.Edges.{IsEdgeFrom, IsEdgeBetween}
use Rattle.loop_shapes.specs.Gains.{Gained}
use Rattle.loop_shapes.specs.Net.{graph_of}
use Rattle.loop_shapes.proofs.Gains.{Among, gained_none, gained_more, gained_all, gained_to, all_from_nothing}
use Rattle.loop_shapes.proofs.EdgeSets.{edge_between}
use Rattle.loop_shapes.proofs.edges.edges.Goals as goal

pub loop-x-init : goal.loop-x-init
loop-x-init c = subst (λ (xs : List (ℕ × ℕ)). Gained (Among (IsEdgeFrom (graph_of c.args.net.now) c.args.to.now c.args.inside) []) [] xs) (sym c.new-all.ensures.items) (gained_none (IsEdgeFrom (graph_of c.args.net.now) c.args.to.now c.args.inside) [])

pub loop-x-preserved : goal.loop-x-preserved
loop-x-preserved c = gained_more (IsEdgeFrom (graph_of c.args.net.now) c.args.to.now c.args.inside) c.args.from.now c.loop-x.x-index [] c.loop-x.all.items c.add_edges.new.all.items c.loop-x-test.true c.loop-x.invariant c.in_ok-add_edges.ensures

pub returns : goal.returns
returns c = all_from_nothing (IsEdgeBetween (graph_of c.args.net.now) c.args.from.now c.args.to.now c.args.inside) c.loop-x.all.items (gained_to _ (IsEdgeBetween (graph_of c.args.net.now) c.args.from.now c.args.to.now c.args.inside) [] c.loop-x.all.items (edge_between (graph_of c.args.net.now) c.args.from.now c.args.to.now c.args.inside) (gained_all (IsEdgeFrom (graph_of c.args.net.now) c.args.to.now c.args.inside) c.args.from.now c.loop-x.x-index [] c.loop-x.all.items c.loop-x-test.false c.loop-x.invariant))
