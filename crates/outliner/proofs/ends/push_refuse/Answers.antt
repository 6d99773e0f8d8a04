use Rattle.stub_laws.proofs.Appends.{joined}
use Rattle.outliner.proofs.ends.push_refuse.Goals as goal

pub returns : goal.returns
returns c =
    joined _ _ _ _ _ c.in_ok-push_restore.ensures c.in_ok-push.ensures
