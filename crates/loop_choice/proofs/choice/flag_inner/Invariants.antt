use Rattle.loop_choice.specs.Choosing.{AreSetToo}
use Rattle.loop_choice.proofs.Flags.{IsOtherTo}
use Rattle.loop_choice.proofs.choice.flag_inner.Given as goal

abbrev pub invariant-loop-k : goal.invariant-loop-k
invariant-loop-k l = AreSetToo (IsOtherTo l.all l.i l.words l.k) l.fn.flags.items l.flags.items
