use Rattle.hart_core.proofs.Steps.{idle}
use Rattle.hart_core.proofs.laws.idle_law.Goals as goal

pub returns : goal.returns
returns c = idle
