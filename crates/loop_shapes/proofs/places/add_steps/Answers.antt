use Rattle.loop_shapes.proofs.Rows.{added_more}
use Rattle.loop_shapes.proofs.places.add_steps.Goals as goal
use Rattle.loop_data.specs.Flows.{rows}

pub loop-y-preserved : goal.loop-y-preserved
loop-y-preserved c = added_more c.args.at.now c.args.steps.now c.args.from c.loop-y.y-index (rows c.args.before.now) (rows c.loop-y.before) (rows c.add_step.new.before) c.loop-y-test.true c.loop-y.invariant c.in_ok-add_step.ensures
