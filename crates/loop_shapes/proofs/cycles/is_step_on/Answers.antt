use Rattle.loop_shapes.proofs.Targets.{on_some}
use Rattle.loop_shapes.proofs.cycles.is_step_on.Goals as goal

pub returns-in-Some : goal.returns-in-Some
returns-in-Some c = on_some c.args.body.now.places.now c.is_left.result c.args.target c.in-Some.node c.in-Some.is c.args.gone.now.found.items c.is_left.ensures
