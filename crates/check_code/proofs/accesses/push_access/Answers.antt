use Rattle.check_code.proofs.Joins.{six, as_permitted}
use Rattle.check_code.proofs.accesses.push_access.Goals as goal

pub returns : goal.returns
returns c =
    six _ _ _ _ _ _ _ _ _ _ _ _ _ c.in_ok-push_first.ensures c.in_ok-push_below.ensures c.in_ok-push_aligned.ensures
    c.in_ok-push_least.ensures c.in_ok-push_end.ensures
    (as_permitted _ _ _ _ c.args.areas.now c.permission_of.ensures c.in_ok-push_areas.ensures)
