use Rattle.stack_slots.proofs.Orders.{Rising}
use Rattle.stack_slots.proofs.tests.are_in_order.Given as goal

abbrev pub invariant-loop-i : goal.invariant-loop-i
invariant-loop-i l = Rising l.words l.i
