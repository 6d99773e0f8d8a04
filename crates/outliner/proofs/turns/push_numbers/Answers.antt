use Rattle.stub_laws.proofs.Appends.{joined}
use Rattle.outliner.proofs.turns.push_numbers.Goals as goal

pub returns : goal.returns
returns c =
    joined _ _ _ _ _ c.in_ok-id.ensures (joined _ _ _ _ _ c.in_ok-harts.ensures (joined _ _ _ _ _ c.in_ok-get.ensures
    c.in_ok-imm.ensures))
