use Rattle.hart_core.proofs.Steps.{append}
use Rattle.hart_core.proofs.laws.append_law.Goals as goal

pub returns : goal.returns
returns c = append
