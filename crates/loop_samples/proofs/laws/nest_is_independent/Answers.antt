use Rattle.loop_samples.proofs.Nested.{independent}
use Rattle.loop_samples.proofs.laws.nest_is_independent.Goals as goal

pub returns : goal.returns
returns c = independent
