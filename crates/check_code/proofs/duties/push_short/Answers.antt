use Rattle.stub_laws.proofs.Appends.{joined}
use Rattle.check_code.proofs.duties.push_short.Goals as goal

pub returns : goal.returns
returns c = joined _ _ _ _ _ c.in_ok-push_immediate.ensures c.in_ok-need.ensures
