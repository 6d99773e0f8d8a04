use Rattle.loop_samples.proofs.Refused.{not_all_private, not_unwritten}
use Rattle.loop_samples.proofs.laws.unwritten_is_not_private.Goals as goal

pub returns-clause-all : goal.returns-clause-all
returns-clause-all c = not_all_private

pub returns-clause-one : goal.returns-clause-one
returns-clause-one c = not_unwritten
