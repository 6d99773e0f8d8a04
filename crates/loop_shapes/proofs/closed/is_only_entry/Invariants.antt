use Rattle.std.proofs.Common.{◌≡◌, ℕ, ◌<◌, true, false, get_or}
use Rattle.loop_shapes.proofs.closed.is_only_entry.Given as goal

abbrev pub invariant-loop-i : goal.invariant-loop-i
invariant-loop-i l = (k : ℕ) → k < l.i-index → get_or l.starts (get_or l.found k 0) false ≡ true → get_or l.found k 0 ≡ l.header
