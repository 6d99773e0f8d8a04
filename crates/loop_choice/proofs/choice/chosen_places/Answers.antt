use Rattle.loop_choice.proofs.Choices.{all_chosen}
use Rattle.loop_choice.proofs.choice.chosen_places.Goals as goal

pub returns : goal.returns
returns c = all_chosen c.args.all.now c.loop-place.place c.loop-place.places.items c.loop-place-test.false c.loop-place.invariant
