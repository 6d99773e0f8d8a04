use Rattle.loop_shapes.proofs.ListedLines.{lesser_more, least_all}
use Rattle.loop_shapes.proofs.line.least_place.Goals as goal

pub loop-x-preserved : goal.loop-x-preserved
loop-x-preserved c = lesser_more c.args.row.now c.loop-x.x-index c.loop-x.least c.lesser-least.result c.loop-x-test.true c.lesser-least.ensures c.loop-x.invariant

pub returns : goal.returns
returns c = least_all c.args.row.now c.loop-x.x-index c.loop-x.least c.loop-x-test.false c.loop-x.invariant.0 c.loop-x.invariant.1
