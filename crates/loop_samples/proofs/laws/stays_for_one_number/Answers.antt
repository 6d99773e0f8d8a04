use Rattle.loop_samples.proofs.Refused.{one_number}
use Rattle.loop_samples.proofs.laws.stays_for_one_number.Goals as goal

pub returns : goal.returns
returns c = one_number
