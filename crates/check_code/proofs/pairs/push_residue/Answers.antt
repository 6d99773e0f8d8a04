use Rattle.check_code.proofs.Joins.{five}
use Rattle.check_code.proofs.pairs.push_residue.Goals as goal

pub returns : goal.returns
returns c =
    five _ _ _ _ _ _ _ _ _ _ _ c.in_ok-push_remainder.ensures c.in_ok-push_more.ensures c.in_ok-push_over.ensures
    c.in_ok-push_operation.ensures c.in_ok-push_over-2.ensures
