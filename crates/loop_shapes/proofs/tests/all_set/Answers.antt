use Rattle.std.proofs.Common.{arith}
use Rattle.loop_shapes.proofs.tests.all_set.Goals as goal

pub returns : goal.returns
returns c t i l = let n = c.loop-flag-test.false in c.loop-flag.invariant i (omega arith)
