use Rattle.loop_shapes.proofs.Walking.{below_push}
use Rattle.loop_shapes.proofs.walk.add_start.Goals as goal
use Rattle.std.proofs.Common.{length}

pub returns : goal.returns
returns c = below_push (length c.args.starts.now) c.args.all.now.items c.push.new.self.items c.args.place c.in_ok-push.ensures.items c.requires.within c.requires.below
