use Rattle.check_code.proofs.Joins.{four}
use Rattle.check_code.proofs.pairs.push_blocks.Goals as goal

pub returns : goal.returns
returns c =
    four _ _ _ _ _ _ _ _ _ c.in_ok-push_operation.ensures c.in_ok-push_more.ensures c.in_ok-push_value.ensures c.in_ok-push_over.ensures
