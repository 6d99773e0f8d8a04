use Rattle.stub_laws.proofs.Appends.{joined}
use Rattle.outliner.proofs.ends.push_restore.Goals as goal

pub returns : goal.returns
returns c =
    joined _ _ _ _ _ c.in_ok-get.ensures (joined _ _ _ _ _ c.in_ok-get-2.ensures (joined _ _ _ _ _ c.in_ok-get-3.ensures (joined _
    _ _ _ _ c.in_ok-get-4.ensures (joined _ _ _ _ _ c.in_ok-get-5.ensures (joined _ _ _ _ _ c.in_ok-get-6.ensures
    c.in_ok-get-7.ensures)))))
