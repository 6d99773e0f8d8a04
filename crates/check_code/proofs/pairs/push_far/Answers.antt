use Rattle.check_code.proofs.Joins.{six}
use Rattle.check_code.proofs.pairs.push_far.Goals as goal

pub returns : goal.returns
returns c =
    six _ _ _ _ _ _ _ _ _ _ _ _ _ c.in_ok-push_get.ensures c.in_ok-push_operation.ensures c.in_ok-push_operation-2.ensures
    c.in_ok-push_more.ensures c.in_ok-push_over.ensures c.in_ok-push_open.ensures
