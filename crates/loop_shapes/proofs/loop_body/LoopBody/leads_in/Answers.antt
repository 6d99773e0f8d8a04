use Rattle.loop_shapes.proofs.Targets.{in_some}
use Rattle.loop_shapes.proofs.loop_body.LoopBody.leads_in.Goals as goal

pub returns-in-Some : goal.returns-in-Some
returns-in-Some c = in_some c.args.self.now.places.now c.has.result c.args.target c.in-Some.node c.in-Some.is c.has.ensures
