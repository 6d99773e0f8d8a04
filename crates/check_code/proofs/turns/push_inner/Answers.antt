use Rattle.stub_laws.proofs.Appends.{joined}
use Rattle.check_code.proofs.turns.push_inner.Goals as goal

pub returns : goal.returns
returns c = joined _ _ _ _ _ c.in_ok-push_trip.ensures c.in_ok-push_last_pass.ensures
