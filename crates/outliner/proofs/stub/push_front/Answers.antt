use Rattle.outliner.specs.Moves.{moved}
use Rattle.outliner.proofs.Divided.{front_words}
use Rattle.outliner.proofs.stub.push_front.Goals as goal

pub returns : goal.returns
returns c =
    front_words (moved c.args.classes.now) c.args.p c.args.header c.args.next _ _ _ _ c.in_ok-push.ensures c.in_ok-push_fork.ensures c.in_ok-push_begin.ensures
