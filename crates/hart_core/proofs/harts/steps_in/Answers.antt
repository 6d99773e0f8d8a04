use Rattle.std.proofs.Common.{arith}
use Rattle.hart_core.proofs.Sums.{whole_sum}
use Rattle.hart_core.proofs.harts.steps_in.Goals as goal

pub returns : goal.returns
returns c = whole_sum c.loop-i.steps c.args.seats.now c.loop-i.i (omega arith) c.loop-i.invariant.below c.loop-i.invariant.sum
