use Rattle.std.proofs.Common.{refl}
use Rattle.loop_shapes.proofs.nest.is_acyclic_outer.Goals as goal

pub find_body-requires-clause-header : goal.find_body-requires-clause-header
find_body-requires-clause-header c = c.if-not-is_outer.ensures refl
