use Rattle.std.proofs.Common.{◌≡◌, ℕ, ◌<◌, take}
use Rattle.induction.specs.Masks.{has_bit, all_after}
use Rattle.induction.proofs.masks.meet.Given as goal

abbrev pub invariant-loop-k : goal.invariant-loop-k
invariant-loop-k l = (r : ℕ) → r < 48 → has_bit l.mask r ≡ all_after l.flow l.masks (take l.k-index l.sources) r
