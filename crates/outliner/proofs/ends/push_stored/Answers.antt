use Rattle.outliner.proofs.Appends.{stored_none}
use Rattle.outliner.proofs.ends.push_stored.Goals as goal

pub returns : goal.returns
returns c = stored_none _ c.args.c.now.stored _ c.if-c.false
