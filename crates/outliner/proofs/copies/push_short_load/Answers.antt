use Rattle.stub_laws.proofs.Appends.{joined}
use Rattle.outliner.proofs.copies.push_short_load.Goals as goal

pub returns : goal.returns
returns c = joined _ _ _ _ _ c.in_ok-push.ensures c.in_ok-push-2.ensures
