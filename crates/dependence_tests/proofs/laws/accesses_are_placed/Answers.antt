use Rattle.dependence_tests.proofs.Places.{placed}
use Rattle.dependence_tests.proofs.laws.accesses_are_placed.Goals as goal

pub returns : goal.returns
returns c = placed
