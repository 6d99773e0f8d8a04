use Rattle.std.proofs.Common.{get_or, refl}
use Rattle.std.proofs.lemmas.List.Elements.{Contains-get_or}
use Rattle.loop_shapes.proofs.word_ranks.has_ranked.Goals as goal

pub is_ranked-requires : goal.is_ranked-requires
is_ranked-requires c = c.requires _ (Contains-get_or c.args.places.now c.loop-place.place-index 0 c.loop-place-test.true)

pub returns-then-is_ranked : goal.returns-then-is_ranked
returns-then-is_ranked c _ = record { place = get_or c.args.places.now c.loop-place.place-index 0; among = Contains-get_or c.args.places.now c.loop-place.place-index 0 c.loop-place-test.true; ranked = c.if-is_ranked.ensures.0 refl }
