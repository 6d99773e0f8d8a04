use Rattle.std.proofs.Common.{ℕ, ◌<◌, ◌≤◌, ◌-◌, length}
use Rattle.guest_memory.specs.Layout.{end_of, nth_area}
use Rattle.guest_memory.proofs.lookup.search_for.Given as goal

abbrev pub invariant-loop-low : goal.invariant-loop-low
invariant-loop-low l =
    record {
      order : l.low ≤ l.high;
      within : l.high ≤ length l.areas;
      before : (k : ℕ) → k < l.low → end_of (nth_area l.areas k) ≤ l.addr;
      behind : (k : ℕ) → l.high ≤ k → k < length l.areas → l.addr < end_of (nth_area l.areas k);
    }

abbrev pub decreases-loop-low : goal.decreases-loop-low
decreases-loop-low l = l.high - l.low
