use Rattle.stub_laws.proofs.Appends.{joined}
use Rattle.check_code.proofs.turns.push_last_pass.Goals as goal

pub returns : goal.returns
returns c = joined _ _ _ _ _ c.in_ok-push_immediate.ensures (joined _ _ _ _ _ c.in_ok-need.ensures c.in_ok-put.ensures)
