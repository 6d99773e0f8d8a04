use Rattle.check_code.proofs.Runs.{low_runs}
use Rattle.check_code.proofs.laws.least_values_are_worked_out.Goals as goal

pub returns : goal.returns
returns c = λ code to p r f slots h s n w x a i. low_runs code to p r f slots h s n w x a i
