use Rattle.outliner.proofs.Copied.{no_access}
use Rattle.outliner.proofs.copies.push_access.Goals as goal

pub returns-in_default : goal.returns-in_default
returns-in_default c = no_access _ c.args.k c.args.i c.in_default.not-Load c.in_default.not-Store
