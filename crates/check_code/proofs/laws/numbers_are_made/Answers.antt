use Rattle.check_code.proofs.Runs.{number_runs}
use Rattle.check_code.proofs.laws.numbers_are_made.Goals as goal

pub returns : goal.returns
returns c = λ code to p r v h s n z l f a i. number_runs code to p r v h s n z l f a i
