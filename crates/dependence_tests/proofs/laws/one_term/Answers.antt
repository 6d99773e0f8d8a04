use Rattle.dependence_tests.proofs.OneTerm.{one_term}
use Rattle.dependence_tests.proofs.laws.one_term.Goals as goal

pub returns : goal.returns
returns c = one_term
