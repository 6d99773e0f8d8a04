use Rattle.dependence_tests.proofs.Divisors.{four}
use Rattle.dependence_tests.proofs.terms.divisor_of_four.Goals as goal

pub returns : goal.returns
returns c = four _ _ _ _ _ c.divisor_of_three.result c.divisor_of_three.ensures c.gcd.ensures
