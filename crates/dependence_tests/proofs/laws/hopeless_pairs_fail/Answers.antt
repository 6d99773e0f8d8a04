use Rattle.dependence_tests.proofs.Failing.{fails}
use Rattle.dependence_tests.proofs.laws.hopeless_pairs_fail.Goals as goal

pub returns : goal.returns
returns c = fails
