use Rattle.stub_laws.proofs.Appends.{joined}
use Rattle.check_code.proofs.accesses.push_below.Goals as goal

pub returns : goal.returns
returns c = joined _ _ _ _ _ c.in_ok-push_immediate.ensures c.in_ok-push_zero.ensures
