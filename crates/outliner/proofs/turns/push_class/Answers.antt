use Rattle.outliner.proofs.Appends.{no_class}
use Rattle.outliner.proofs.turns.push_class.Goals as goal

pub returns-in-None : goal.returns-in-None
returns-in-None c = no_class _ c.args.loc c.args.class c.in-None.is
