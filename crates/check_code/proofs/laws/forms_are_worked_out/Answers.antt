use Rattle.check_code.proofs.Runs.{form_runs}
use Rattle.check_code.proofs.laws.forms_are_worked_out.Goals as goal

pub returns : goal.returns
returns c = λ code to p r f h s n w x a i. form_runs code to p r f h s n w x a i
