use Rattle.std.proofs.Common.{◌≡◌, ◌↔◌, Some}
use Rattle.loop_data.specs.Facts.{Fact}
use Rattle.loop_data.specs.Lookups.{fact_in}
use Rattle.loop_data.proofs.ValueFills.{IsFilled}
use Rattle.loop_data.proofs.value_places.meet.Given as goal

abbrev pub invariant-loop-r : goal.invariant-loop-r
invariant-loop-r l = IsFilled (λ q fact. (x : Fact) → (fact ≡ Some x) ↔ ((fact_in l.initial.of q ≡ Some x) × (fact_in l.others q ≡ Some x))) l.initial.of l.of l.r
