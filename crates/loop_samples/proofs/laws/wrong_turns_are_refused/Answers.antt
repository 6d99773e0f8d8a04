use Rattle.loop_samples.proofs.Refused.{not_twenty, not_round}
use Rattle.loop_samples.proofs.Spinning.{not_one}
use Rattle.loop_samples.proofs.laws.wrong_turns_are_refused.Goals as goal

pub returns-clause-leaving : goal.returns-clause-leaving
returns-clause-leaving c = not_twenty

pub returns-clause-outside : goal.returns-clause-outside
returns-clause-outside c = not_round

pub returns-clause-endless : goal.returns-clause-endless
returns-clause-endless c = not_one
