use Rattle.std.proofs.Common.{length}
use Rattle.loop_shapes.proofs.Walking.{below_push}
use Rattle.loop_shapes.proofs.walk.push_step.Goals as goal

pub returns-in_ok-push-in-Some-clause-stack : goal.returns-in_ok-push-in-Some-clause-stack
returns-in_ok-push-in-Some-clause-stack c = below_push (length c.args.entered.now.slots.items) c.args.stack.now.items c.push.new.self.items c.in-Some.node c.in_ok-push-in-Some.ensures.items (c.requires.within c.in-Some.node c.in-Some.is) c.requires.stack
