use Rattle.loop_shapes.proofs.BodyLaws.{body_law}
use Rattle.loop_shapes.proofs.laws.bodies.Goals as goal

pub returns : goal.returns
returns c = body_law
