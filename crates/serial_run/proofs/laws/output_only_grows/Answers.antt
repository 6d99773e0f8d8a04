use Rattle.serial_run.proofs.Steps.{output_more}
use Rattle.serial_run.proofs.laws.output_only_grows.Goals as goal

pub returns : goal.returns
returns c = λ n m s l. let grown = output_more n m s l in (grown.more, grown.are)
