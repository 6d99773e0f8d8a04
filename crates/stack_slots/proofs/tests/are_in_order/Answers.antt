use Rattle.std.proofs.Common.{arith}
use Rattle.stack_slots.proofs.Orders.{rising_all}
use Rattle.stack_slots.proofs.tests.are_in_order.Goals as goal

pub returns : goal.returns
returns c e = rising_all c.args.words.now c.loop-i.i c.loop-i.invariant (let h = c.loop-i-test.false in omega arith)
