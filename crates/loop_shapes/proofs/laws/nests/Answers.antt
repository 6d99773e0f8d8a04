use Rattle.loop_shapes.proofs.NestLaws.{nest_law}
use Rattle.loop_shapes.proofs.laws.nests.Goals as goal

pub returns : goal.returns
returns c = nest_law
