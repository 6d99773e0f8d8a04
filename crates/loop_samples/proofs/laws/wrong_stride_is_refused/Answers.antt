use Rattle.loop_samples.proofs.Refused.{not_fast}
use Rattle.loop_samples.proofs.laws.wrong_stride_is_refused.Goals as goal

pub returns : goal.returns
returns c = not_fast
