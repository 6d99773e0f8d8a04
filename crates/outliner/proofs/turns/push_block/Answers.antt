use Rattle.stub_laws.proofs.Appends.{joined}
use Rattle.outliner.proofs.turns.push_block.Goals as goal

pub returns : goal.returns
returns c =
    joined _ _ _ _ _ c.in_ok-push_numbers.ensures (joined _ _ _ _ _ c.in_ok-alu.ensures (joined _ _ _ _ _ c.in_ok-imm.ensures
    (joined _ _ _ _ _ c.in_ok-alu-2.ensures (joined _ _ _ _ _ c.in_ok-alu-3.ensures (joined _ _ _ _ _ c.in_ok-alu-4.ensures
    (joined _ _ _ _ _ c.in_ok-imm-2.ensures (joined _ _ _ _ _ c.in_ok-alu-5.ensures (joined _ _ _ _ _ c.in_ok-alu-6.ensures
    (joined _ _ _ _ _ c.in_ok-alu-7.ensures c.in_ok-put.ensures)))))))))
