use Rattle.check_numbers.proofs.Sums.{value_is}
use Rattle.check_numbers.proofs.sums_are_integers.Goals as goal

pub returns : goal.returns
returns c = λ e z ts short h. value_is e z ts short h
