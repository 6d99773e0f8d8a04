use Rattle.std.proofs.Common.{◌≡◌, replicate}
use Rattle.induction.proofs.masks.empty_masks.Given as goal

abbrev pub invariant-loop : goal.invariant-loop
invariant-loop l = l.all.items ≡ replicate l.counter 0
