use Rattle.stub_laws.proofs.Appends.{joined}
use Rattle.outliner.proofs.ends.push_leave.Goals as goal

pub returns : goal.returns
returns c =
    joined _ _ _ _ _ c.in_ok-push_cells.ensures c.in_ok-push.ensures
