use Rattle.std.proofs.Common.{ap, Some}
use Rattle.outliner.proofs.Appends.{private_class}
use Rattle.outliner.proofs.turns.push_known_class.Goals as goal

pub returns-in-Private : goal.returns-in-Private
returns-in-Private c = private_class _ c.args.loc (Some c.args.class) (ap Some c.in-Private.is)
