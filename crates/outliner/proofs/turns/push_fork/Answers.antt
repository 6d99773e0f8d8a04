use Rattle.outliner.proofs.Appends.{fork_words}
use Rattle.outliner.proofs.turns.push_fork.Goals as goal

pub returns : goal.returns
returns c = fork_words _ _ _ _ c.args.p c.args.join c.in_ok-push_block.ensures c.in_ok-branch.ensures c.in_ok-jump.ensures
