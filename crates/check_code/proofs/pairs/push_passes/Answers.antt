use Rattle.check_code.proofs.Joins.{three}
use Rattle.check_code.proofs.pairs.push_passes.Goals as goal

pub returns : goal.returns
returns c = three _ _ _ _ _ _ _ c.in_ok-push_size.ensures c.in_ok-push_size-2.ensures c.in_ok-push_size-3.ensures
