use Rattle.hart_core.proofs.Steps.{after_ending}
use Rattle.hart_core.proofs.laws.ended_law.Goals as goal

pub returns : goal.returns
returns c = after_ending
