use Rattle.dependence_tests.proofs.Distances.{known}
use Rattle.dependence_tests.proofs.laws.known_differences_are_exact.Goals as goal

pub returns : goal.returns
returns c = known c.one_word.ensures.same
