use Rattle.stub_laws.proofs.Appends.{joined}
use Rattle.outliner.proofs.Appends.{jumps_back}
use Rattle.outliner.proofs.turns.push_next.Goals as goal

pub returns : goal.returns
returns c =
    joined _ _ _ _ _ c.in_ok-put.ensures (joined _ _ _ _ _ c.in_ok-get.ensures (joined _ _ _ _ _ c.in_ok-imm.ensures (joined _ _ _ _ _ c.in_ok-put-2.ensures (joined _ _ _ _ _ c.in_ok-branch.ensures
    (joined _ _ _ _ _ c.in_ok-get-2.ensures (joined _ _ _ _ _ (jumps_back _ _ c.args.p c.args.body c.in_ok-jump.ensures) c.in_ok-get-3.ensures))))))
