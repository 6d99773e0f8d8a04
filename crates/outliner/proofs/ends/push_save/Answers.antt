use Rattle.stub_laws.proofs.Appends.{joined}
use Rattle.outliner.proofs.ends.push_save.Goals as goal

pub returns : goal.returns
returns c =
    joined _ _ _ _ _ c.in_ok-put.ensures (joined _ _ _ _ _ c.in_ok-put-2.ensures (joined _ _ _ _ _ c.in_ok-put-3.ensures (joined _
    _ _ _ _ c.in_ok-put-4.ensures (joined _ _ _ _ _ c.in_ok-put-5.ensures (joined _ _ _ _ _ c.in_ok-put-6.ensures
    c.in_ok-put-7.ensures)))))
