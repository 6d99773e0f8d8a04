use Rattle.stub_laws.proofs.Appends.{joined}
use Rattle.check_code.proofs.turns.push_last_turn.Goals as goal

pub returns : goal.returns
returns c =
    joined _ _ _ _ _ c.in_ok-push_immediate.ensures
    (joined _ _ _ _ _ c.in_ok-need.ensures (joined _ _ _ _ _ c.in_ok-push_immediate-2.ensures (joined _ _ _ _ _ c.in_ok-push_immediate-3.ensures
    (joined _ _ _ _ _ c.in_ok-need-2.ensures (joined _ _ _ _ _ c.in_ok-push_immediate-4.ensures c.in_ok-put.ensures)))))
