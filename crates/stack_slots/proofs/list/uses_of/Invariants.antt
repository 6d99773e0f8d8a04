use Rattle.stack_slots.specs.Uses.{AreUsesTo}
use Rattle.stack_slots.proofs.list.uses_of.Given as goal

abbrev pub invariant-loop-w : goal.invariant-loop-w
invariant-loop-w l = AreUsesTo l.words l.firsts l.w-index l.uses.items
