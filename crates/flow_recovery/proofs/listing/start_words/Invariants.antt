use Rattle.std.proofs.Common.{◌↔◌, ℕ, take, Contains}
use Rattle.flow_recovery.proofs.Listed.{StartsFrom}
use Rattle.flow_recovery.proofs.listing.start_words.Given as goal

abbrev pub invariant-loop-at : goal.invariant-loop-at
invariant-loop-at l = (a : ℕ) → Contains l.starts.items a ↔ StartsFrom l.elf (take l.at-index l.words) a
