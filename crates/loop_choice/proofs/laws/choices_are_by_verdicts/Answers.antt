use Rattle.loop_choice.proofs.SameChoice.{same_choice}
use Rattle.loop_choice.proofs.laws.choices_are_by_verdicts.Goals as goal

pub returns : goal.returns
returns c = same_choice
