use Rattle.dependence_tests.proofs.Separating.{test_is, hopeless_is}
use Rattle.dependence_tests.proofs.laws.terms_tell_of_accesses.Goals as goal

pub returns : goal.returns
returns c = record { test = test_is; hopeless = hopeless_is }
