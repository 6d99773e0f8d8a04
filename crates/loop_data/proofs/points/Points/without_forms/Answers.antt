use Rattle.loop_data.proofs.Pooling.{bare_points, bare_pooled}
use Rattle.loop_data.proofs.points.Points.without_forms.Goals as goal

pub invariant_of-result : goal.invariant_of-result
invariant_of-result c = rw (c.in_ok-push.ensures.items, c.in_ok-rows.ensures, c.new-pool.ensures.items) (bare_pooled c.args.body.now)

pub returns : goal.returns
returns c = rw (c.in_ok-push.ensures.items, c.in_ok-rows.ensures, c.new-pool.ensures.items) (bare_points c.args.body.now)
