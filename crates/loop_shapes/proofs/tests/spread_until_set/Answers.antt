use Rattle.loop_shapes.proofs.Spreading.{spread_whole}
use Rattle.loop_shapes.proofs.tests.spread_until_set.Goals as goal

pub returns : goal.returns
returns c t = spread_whole c.args.graph.now c.loop.flags c.loop.invariant (c.all_set.ensures t)
