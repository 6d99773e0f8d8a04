use Rattle.loop_choice.proofs.Hopeless.{NoneAbove}
use Rattle.loop_choice.proofs.dependence.first_hopeless.Given as goal

abbrev pub invariant-loop-i : goal.invariant-loop-i
invariant-loop-i l = NoneAbove l.list l.i
