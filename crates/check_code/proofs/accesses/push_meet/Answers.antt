use Rattle.std.proofs.Common.{ap, pos}
use Rattle.check_code.proofs.Joins.{five, as_immediate}
use Rattle.check_code.proofs.accesses.push_meet.Goals as goal

pub returns : goal.returns
returns c =
    five _ _ _ _ _ _ _ _ _ _ _ c.in_ok-push_cell.ensures
    (as_immediate _ _ _ _ _ _ _ (ap pos c.cell_size.ensures.value) c.in_ok-push_more.ensures)
    c.in_ok-push_least.ensures c.in_ok-push_end.ensures c.in_ok-push_disjoint.ensures
