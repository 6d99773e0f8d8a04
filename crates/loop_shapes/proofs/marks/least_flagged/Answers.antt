use Rattle.std.proofs.lemmas.List.Elements.{Contains-get_or}
use Rattle.loop_shapes.proofs.Flagged.{least_none, least_more, least_all}
use Rattle.loop_shapes.proofs.marks.least_flagged.Goals as goal

pub with_place-least-requires : goal.with_place-least-requires
with_place-least-requires c = c.requires _ (Contains-get_or c.args.found.now c.loop-place.place-index 0 c.loop-place-test.true)

pub loop-place-init : goal.loop-place-init
loop-place-init c = least_none c.args.flags.now

pub loop-place-preserved : goal.loop-place-preserved
loop-place-preserved c = least_more c.args.flags.now c.args.found.now c.loop-place.place-index c.loop-place-test.true c.loop-place.least c.with_place-least.result c.with_place-least.ensures c.loop-place.invariant

pub returns : goal.returns
returns c = least_all c.args.flags.now c.args.found.now c.loop-place.place-index c.loop-place.least c.loop-place-test.false c.loop-place.invariant
