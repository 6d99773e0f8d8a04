use Rattle.loop_samples.proofs.Adding.{independent}
use Rattle.loop_samples.proofs.laws.add_loop_is_independent.Goals as goal

pub returns : goal.returns
returns c = independent
