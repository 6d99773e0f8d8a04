use Rattle.std.proofs.Common.{◌≡◌, ◌↔◌, ℕ, ◌<◌, Some, get_or}
use Rattle.loop_data.specs.Facts.{Fact}
use Rattle.loop_data.specs.Lookups.{fact_in}
use Rattle.loop_data.specs.ValueStates.{past}
use Rattle.loop_data.proofs.value_places.set_met.Given as goal

abbrev pub invariant-loop-i : goal.invariant-loop-i
invariant-loop-i l = (r : ℕ) → r < 48 → (x : Fact) → (fact_in l.of r ≡ Some x) ↔ ((past l.flow l.points (get_or l.sources 0 0) r ≡ Some x) × ((j : ℕ) → j < l.i → past l.flow l.points (get_or l.sources j 0) r ≡ Some x))
