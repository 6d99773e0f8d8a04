use Rattle.check_numbers.proofs.Signed.{sum_signed}
use Rattle.check_numbers.proofs.sums_are_signed.Goals as goal

pub returns : goal.returns
returns c = λ x y z a h. sum_signed x y z a h
