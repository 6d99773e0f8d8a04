use Rattle.loop_shapes.specs.Net.{graph_of}
use Rattle.loop_shapes.proofs.Unions.{body_from_union}
use Rattle.loop_shapes.proofs.body.body_of.Goals as goal

pub returns : goal.returns
returns c = body_from_union (graph_of c.args.net.now) c.args.header c.args.closed.now c.in_ok-all_parts.field-0.items c.in_order.result.items c.requires.closed c.in_ok-all_parts.ensures c.in_order.ensures
