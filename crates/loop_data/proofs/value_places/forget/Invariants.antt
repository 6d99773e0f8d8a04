use Rattle.std.proofs.Common.{◌≡◌, None, false, if◌then◌else◌, get_or}
use Rattle.loop_data.specs.Lookups.{fact_in}
use Rattle.loop_data.proofs.ValueFills.{IsFilled}
use Rattle.loop_data.proofs.value_places.forget.Given as goal

abbrev pub invariant-loop-r : goal.invariant-loop-r
invariant-loop-r l = IsFilled (λ q fact. fact ≡ (if get_or l.flags q false then None else fact_in l.initial.of q)) l.initial.of l.of l.r
