use Rattle.std.proofs.Common.{[]}
use Rattle.std.specs.List.{Contains}
use Rattle.std.proofs.lemmas.List.Elements.{Contains-get_or}
use Rattle.loop_shapes.proofs.Gone.{gone_same, gone_more, gone_whole}
use Rattle.loop_shapes.proofs.Rows.{none_in}
use Rattle.loop_shapes.proofs.cycles.take_out_all.Goals as goal

pub loop-place-init : goal.loop-place-init
loop-place-init c = (c.requires.gone, gone_same c.args.body.now.program.now.open_next.items c.args.body.now.places.now (Contains []) c.args.gone.now.found.items (λ i m. none_in i m))

pub take_out-requires-clause-within : goal.take_out-requires-clause-within
take_out-requires-clause-within c = c.requires.within _ (Contains-get_or c.args.places.now c.loop-place.place-index 0 c.loop-place-test.true)

pub loop-place-preserved : goal.loop-place-preserved
loop-place-preserved c = (c.in_ok-take_out.ensures.gone, gone_more c.args.body.now.program.now.open_next.items c.args.body.now.places.now c.args.places.now c.loop-place.place-index c.args.gone.now.found.items c.loop-place.gone.found.items c.take_out.new.gone.found.items c.loop-place-test.true c.loop-place.invariant.1 c.in_ok-take_out.ensures.more)

pub returns-clause-more : goal.returns-clause-more
returns-clause-more c = gone_whole c.args.body.now.program.now.open_next.items c.args.body.now.places.now c.args.places.now c.loop-place.place-index c.args.gone.now.found.items c.loop-place.gone.found.items c.loop-place-test.false c.loop-place.invariant.1
