use Rattle.stub_laws.proofs.Appends.{joined}
use Rattle.check_code.proofs.duties.push_shorts.Goals as goal

pub returns : goal.returns
returns c =
    joined _ _ _ _ _ c.in_ok-number.ensures
    (joined _ _ _ _ _ c.in_ok-need.ensures (joined _ _ _ _ _ c.in_ok-number-2.ensures c.in_ok-need-2.ensures))
