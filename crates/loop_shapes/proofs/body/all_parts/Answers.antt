use Rattle.std.proofs.Common.{[], sym, subst}
use Rattle.std.proofs.lemmas.List.Elements.{Contains-get_or}
use Rattle.loop_shapes.specs.Gains.{HasAll}
use Rattle.loop_shapes.specs.Net.{IsPartOf, graph_of}
use Rattle.loop_shapes.proofs.Unions.{union_none, union_more, union_all}
use Rattle.loop_shapes.proofs.body.all_parts.Goals as goal

pub add_part-requires-clause-source : goal.add_part-requires-clause-source
add_part-requires-clause-source c = (c.requires.closed.each _ (Contains-get_or c.args.closed.now c.loop-source.source-index 0 c.loop-source-test.true)).0

pub add_part-requires-clause-closed : goal.add_part-requires-clause-closed
add_part-requires-clause-closed c = (c.requires.closed.each _ (Contains-get_or c.args.closed.now c.loop-source.source-index 0 c.loop-source-test.true)).1

pub loop-source-init : goal.loop-source-init
loop-source-init c = subst (HasAll (IsPartOf (graph_of c.args.net.now) c.args.header [])) (sym c.new-all.ensures.items) (union_none (graph_of c.args.net.now) c.args.header)

pub loop-source-preserved : goal.loop-source-preserved
loop-source-preserved c = union_more (graph_of c.args.net.now) c.args.header c.loop-source.source-index c.args.closed.now c.loop-source.all.items c.add_part.new.all.items c.loop-source-test.true c.loop-source.invariant c.in_ok-add_part.ensures

pub returns : goal.returns
returns c = union_all (graph_of c.args.net.now) c.args.header c.loop-source.source-index c.args.closed.now c.loop-source.all.items c.loop-source-test.false c.loop-source.invariant
