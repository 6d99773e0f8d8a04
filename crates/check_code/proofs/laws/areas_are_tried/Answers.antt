use Rattle.check_code.proofs.Runs.{areas_runs}
use Rattle.check_code.proofs.laws.areas_are_tried.Goals as goal

pub returns : goal.returns
returns c = λ code to p permission areas h s n few low x i. areas_runs code to p permission areas h s n few low x i
