use Rattle.check_code.proofs.Decided.{access_runs}
use Rattle.check_code.proofs.pair_laws.accesses_are_tested.Goals as goal

pub returns : goal.returns
returns c = λ code to p areas a h s n few low f l x i. access_runs code to p areas a h s n few low f l x i
