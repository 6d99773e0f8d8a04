use Rattle.loop_choice.specs.Choosing.{AreChosenBelow}
use Rattle.loop_choice.proofs.choice.chosen_places.Given as goal

abbrev pub invariant-loop-place : goal.invariant-loop-place
invariant-loop-place l = AreChosenBelow l.all l.place l.places.items
