use Rattle.loop_shapes.proofs.Reaching.{extended_more}
use Rattle.loop_shapes.proofs.reach.reach_all.Goals as goal

pub loop-y-preserved : goal.loop-y-preserved
loop-y-preserved c = extended_more c.args.set.now c.args.ys.now c.loop-y.y-index c.args.reached.now.items c.loop-y.reached.items c.reach_one.new.reached.items c.loop-y-test.true c.loop-y.invariant c.in_ok-reach_one.ensures
