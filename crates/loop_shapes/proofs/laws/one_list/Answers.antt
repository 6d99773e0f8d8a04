use Rattle.loop_shapes.proofs.Unique.{same_loops}
use Rattle.loop_shapes.proofs.laws.one_list.Goals as goal

pub returns : goal.returns
returns c = same_loops
