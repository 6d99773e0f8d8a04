use Rattle.std.proofs.lemmas.List.Elements.{Contains-get_or}
use Rattle.loop_shapes.proofs.body.push_addresses.Goals as goal

pub address_at-requires : goal.address_at-requires
address_at-requires c = c.requires _ (Contains-get_or c.args.places.now c.loop-i.i-index 0 c.loop-i-test.true)
