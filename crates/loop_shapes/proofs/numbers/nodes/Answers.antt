use Rattle.std.proofs.Common.{◌≡◌, length, ap, sym, subst, arith}
use Rattle.loop_shapes.specs.Net.{graph_of}
use Rattle.loop_shapes.specs.Places.{count_of}
use Rattle.loop_shapes.proofs.Numbering.{HasEdgesBelow, nodes_push, nodes_none, nodes_all}
use Rattle.loop_shapes.proofs.numbers.nodes.Goals as goal

pub loop-place-init : goal.loop-place-init
loop-place-init c = subst (HasEdgesBelow (graph_of c.args.net.now) 0) (sym c.new-all.ensures.items) (nodes_none (graph_of c.args.net.now))

pub loop-place-preserved : goal.loop-place-preserved
loop-place-preserved c = nodes_push (graph_of c.args.net.now) c.loop-place.place c.loop-place.all.items c.push.new.self.items c.successors_at.result c.in_ok-push.ensures.items c.successors_at.ensures c.loop-place.invariant

pub returns : goal.returns
returns c =
    let G = graph_of c.args.net.now in
    let n = ap length c.requires.net.addresses_are in
    let l = c.loop-place.auto.place-end in
    let t = c.loop-place-test.false in
    let v = c.args.net.now.at in
    let e : c.loop-place.place ≡ count_of G = omega (arith, v.ok.0, c.len-place-end.ensures) in
    nodes_all G c.loop-place.place c.loop-place.all.items e c.loop-place.invariant
