use Rattle.loop_choice.proofs.Ordered.{RiseTo}
use Rattle.loop_choice.proofs.tests.are_ordered.Given as goal

abbrev pub invariant-loop-i : goal.invariant-loop-i
invariant-loop-i l = RiseTo l.all l.i
