use Rattle.check_code.proofs.Joins.{three}
use Rattle.check_code.proofs.accesses.push_disjoint.Goals as goal

pub returns : goal.returns
returns c = three _ _ _ _ _ _ _ c.in_ok-push_over.ensures c.in_ok-push_over-2.ensures c.in_ok-push_open.ensures
