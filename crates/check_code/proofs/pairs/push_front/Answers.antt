use Rattle.check_code.proofs.Joins.{four}
use Rattle.check_code.proofs.pairs.push_front.Goals as goal

pub returns : goal.returns
returns c =
    four _ _ _ _ _ _ _ _ _ c.in_ok-push_first.ensures c.in_ok-push_first-2.ensures c.in_ok-push_distance.ensures c.in_ok-push_passes.ensures
