use Rattle.loop_choice.specs.Choosing.{AreFlags}
use Rattle.loop_choice.proofs.choice.inner_flags.Given as goal

abbrev pub invariant-loop-i : goal.invariant-loop-i
invariant-loop-i l = AreFlags l.all l.i l.flags.items
