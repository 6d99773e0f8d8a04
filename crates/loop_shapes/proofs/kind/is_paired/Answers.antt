use Rattle.loop_shapes.specs.Net.{graph_of}
use Rattle.loop_shapes.proofs.Classes.{paired_by}
use Rattle.loop_shapes.proofs.kind.is_paired.Goals as goal

pub returns : goal.returns
returns c =
    let p = paired_by (graph_of c.args.net.now) c.requires.ordered c.args.x c.args.register c.class_at.result c.if-x-lt4.false c.class_at.ensures.found c.class_at.ensures.none in
    let u = c.is_upper.ensures in
    (λ t. p.0 (u.0 t), λ q. u.1 (p.1 q))
