use Rattle.loop_choice.proofs.Hopeless.{NoneBelow}
use Rattle.loop_choice.proofs.dependence.first_with.Given as goal

abbrev pub invariant-loop-j : goal.invariant-loop-j
invariant-loop-j l = NoneBelow l.list l.i l.j
