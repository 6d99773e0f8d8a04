-- Laws of events.
use Rattle.std.specs.Prelude.{ℕ, ◌≡◌, ◌≤◌, ◌++◌, List, IsSome}
use Rattle.hart_core.specs.Machine.{State}
use Rattle.hart_core.specs.Events.{after_event, after_events, IsEffective}
use Rattle.hart_core.specs.Alone.{events_alone}

-- an event that is not effective changes nothing
abbrev pub IdleLaw : Type 0
IdleLaw = (s : State) (k : ℕ) → ¬ IsEffective s.core k → after_event s k ≡ s

-- after the ending nothing happens
abbrev pub EndedLaw : Type 0
EndedLaw = (s : State) (order : List ℕ) → IsSome s.core.ended → after_events s order ≡ s

-- events of two lists, one behind the other
abbrev pub AppendLaw : Type 0
AppendLaw = (s : State) (first second : List ℕ)
    → after_events s (first ++ second) ≡ after_events (after_events s first) second

-- the output after some events of hart 0 is a first part of the output after more of them
abbrev pub GrowthLaw : Type 0
GrowthLaw = (n m : ℕ) (s : State) → n ≤ m
    → (more : List ℕ) × ((events_alone m s).output ≡ (events_alone n s).output ++ more)
