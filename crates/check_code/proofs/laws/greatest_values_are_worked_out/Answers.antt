use Rattle.check_code.proofs.Runs.{high_runs}
use Rattle.check_code.proofs.laws.greatest_values_are_worked_out.Goals as goal

pub returns : goal.returns
returns c = λ code to p r f slots size h s n w x a i. high_runs code to p r f slots size h s n w x a i
