use Rattle.check_code.proofs.Decided.{pair_runs}
use Rattle.check_code.proofs.pair_laws.pairs_are_tested.Goals as goal

pub returns : goal.returns
returns c = λ code to p a b term h s n f g t z l y x u i. pair_runs code to p a b term h s n f g t z l y x u i
