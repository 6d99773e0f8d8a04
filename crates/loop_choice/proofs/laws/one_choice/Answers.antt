use Rattle.loop_choice.proofs.Choices.{one_choice_law}
use Rattle.loop_choice.proofs.laws.one_choice.Goals as goal

pub returns : goal.returns
returns c = one_choice_law
