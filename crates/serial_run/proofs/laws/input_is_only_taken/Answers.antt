use Rattle.serial_run.proofs.Steps.{rest_later}
use Rattle.serial_run.proofs.laws.input_is_only_taken.Goals as goal

pub returns : goal.returns
returns c = λ n m s l. let left = rest_later n m s l in (left.taken, left.are)
