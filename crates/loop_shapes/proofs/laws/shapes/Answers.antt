use Rattle.loop_shapes.proofs.BodyLaws.{shape_law}
use Rattle.loop_shapes.proofs.laws.shapes.Goals as goal

pub returns : goal.returns
returns c = shape_law
