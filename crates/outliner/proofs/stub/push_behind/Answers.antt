use Rattle.outliner.proofs.Divided.{behind_words}
use Rattle.outliner.proofs.stub.push_behind.Goals as goal

pub returns : goal.returns
returns c =
    behind_words c.args.cells.now c.args.header c.args.next _ _ _ _ c.in_ok-push_next.ensures c.in_ok-push_join.ensures c.in_ok-push_leave.ensures
