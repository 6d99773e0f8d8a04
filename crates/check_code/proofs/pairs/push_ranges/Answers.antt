use Rattle.check_code.proofs.Joins.{five}
use Rattle.check_code.proofs.pairs.push_ranges.Goals as goal

pub returns : goal.returns
returns c =
    five _ _ _ _ _ _ _ _ _ _ _ c.in_ok-push_least.ensures c.in_ok-push_end.ensures c.in_ok-push_least-2.ensures c.in_ok-push_end-2.ensures
    c.in_ok-push_disjoint.ensures
