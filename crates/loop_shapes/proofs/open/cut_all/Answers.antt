use Rattle.std.proofs.Common.{◌<◌, get_or, length, refl, arith}
use Rattle.std.proofs.lemmas.List.Elements.{Contains-get_or}
use Rattle.loop_shapes.proofs.Cutting.{cut_none, cut_more, cut_whole}
use Rattle.loop_shapes.proofs.open.cut_all.Goals as goal

pub index-node-requires : goal.index-node-requires
index-node-requires c =
    let l = c.requires _ (Contains-get_or c.args.from.now c.loop-place.place-index 0 c.loop-place-test.true) in
    let n = c.loop-place.invariant.count in
    omega (arith, c.loop-place.nodes.ok.0)

pub index_mut-requires : goal.index_mut-requires
index_mut-requires c =
    let l = c.requires _ (Contains-get_or c.args.from.now c.loop-place.place-index 0 c.loop-place-test.true) in
    let n = c.loop-place.invariant.count in
    omega (arith, c.loop-place.nodes.ok.0)

pub loop-place-init : goal.loop-place-init
loop-place-init c = cut_none c.args.to c.args.nodes.now.items

pub loop-place-preserved : goal.loop-place-preserved
loop-place-preserved c =
    let from = c.args.from.now in
    let k = c.loop-place.place-index in
    let l = c.requires _ (Contains-get_or from k 0 c.loop-place-test.true) in
    let n = c.loop-place.invariant.count in
    let fits : get_or from k 0 < length c.loop-place.nodes.items = omega arith in
    cut_more c.args.to from k c.args.nodes.now.items c.loop-place.nodes.items _ c.index-node.result.now c.cut.result c.loop-place-test.true fits c.index-node.ensures c.cut.ensures refl c.loop-place.invariant

pub returns : goal.returns
returns c = cut_whole c.args.to c.args.from.now c.loop-place.place-index c.args.nodes.now.items c.loop-place.nodes.items c.loop-place-test.false c.loop-place.invariant
