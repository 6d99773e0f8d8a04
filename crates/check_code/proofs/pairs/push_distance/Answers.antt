use Rattle.check_code.proofs.Joins.{five}
use Rattle.check_code.proofs.pairs.push_distance.Goals as goal

pub returns : goal.returns
returns c =
    five _ _ _ _ _ _ _ _ _ _ _ c.in_ok-push_operation.ensures c.in_ok-push_immediate.ensures c.in_ok-push_operation-2.ensures
    c.in_ok-push_operation-3.ensures c.in_ok-push_immediate-2.ensures
