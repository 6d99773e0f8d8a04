-- The events of hart 0, and of no other hart.
use Rattle.std.specs.Prelude.{ℕ, zero, suc}
use Rattle.hart_core.specs.Machine.{State}
use Rattle.hart_core.specs.Events.{after_event}

-- n events of hart 0, and of no other
abbrev pub events_alone : ℕ → State → State
events_alone zero s = s
events_alone (suc n) s = events_alone n (after_event s 0)
