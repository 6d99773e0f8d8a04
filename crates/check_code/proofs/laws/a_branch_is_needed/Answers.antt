use Rattle.check_code.proofs.Runs.{need_runs}
use Rattle.check_code.proofs.laws.a_branch_is_needed.Goals as goal

pub returns : goal.returns
returns c = λ code to p a b op h s n x i. need_runs code to p a b op h s n x i
