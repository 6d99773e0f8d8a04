use Rattle.dependence_tests.proofs.Meeting.{pairs_apart}
use Rattle.dependence_tests.proofs.laws.tested_pairs_are_apart.Goals as goal

pub returns : goal.returns
returns c = pairs_apart
