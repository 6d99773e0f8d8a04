use Rattle.check_code.proofs.Joins.{seven}
use Rattle.check_code.proofs.pairs.push_lanes.Goals as goal

pub returns : goal.returns
returns c =
    seven _ _ _ _ _ _ _ _ _ _ _ _ _ _ _ c.in_ok-push_more.ensures c.in_ok-push_over.ensures c.in_ok-push_get.ensures
    c.in_ok-push_operation.ensures c.in_ok-push_operation-2.ensures c.in_ok-push_value.ensures c.in_ok-push_over-2.ensures
