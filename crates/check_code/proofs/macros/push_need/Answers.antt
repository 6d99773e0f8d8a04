use Rattle.stub_laws.proofs.Appends.{joined_as}
use Rattle.check_code.proofs.macros.push_need.Goals as goal

pub returns : goal.returns
returns c = joined_as _ _ _ _ _ _ c.in_ok-push.ensures c.in_ok-push_open.ensures (cc)
