use Rattle.hart_core.proofs.AloneSteps.{output_more}
use Rattle.hart_core.proofs.laws.growth_law.Goals as goal

pub returns : goal.returns
returns c = λ n m s l. let grown = output_more n m s l in (grown.more, grown.are)
