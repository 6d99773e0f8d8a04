-- Events one after the other, and events that do nothing.
use Rattle.std.proofs.Common.{◌≡◌, ℕ, Bool, List, [], ◌∷◌, ◌++◌, true, false, Option, Some, None, refl, ap, sym, ◌∙◌}
use Rattle.std.specs.Prelude.{IsSome, IsTrue, slice_get}
use Rattle.serial_run.specs.declared.machine.End.{End}
use Rattle.hart_core.specs.Machine.{Mode, Free, Stub, Passing, Waiting, Idle, Hart, Core, State}
use Rattle.hart_core.specs.Events.{event_by, event_of, unless_ended, after_event, after_events, goes, goes_in, goes_before, is_effective, IsEffective}

by_none : (m : Mode) (s : State) (k : ℕ) (h : Hart) → goes m ≡ false → event_by m s k h ≡ s
by_none Free s k h e = cc
by_none Stub s k h e = cc
by_none Passing s k h e = cc
by_none Waiting s k h e = refl
by_none Idle s k h e = refl

of_none : (o : Option Hart) (s : State) (k : ℕ) → goes_in o ≡ false → event_of s k o ≡ s
of_none None s k e = refl
of_none (Some h) s k e = by_none h.mode s k h e

ended_none : (o : Option End) (g : Option Hart) (s : State) (k : ℕ) → goes_before o (goes_in g) ≡ false
    → unless_ended o s (event_of s k g) ≡ s
ended_none None g s k e = of_none g s k e
ended_none (Some end) g s k e = refl

pub stays : (s : State) (k : ℕ) → is_effective s.core k ≡ false → after_event s k ≡ s
unfolding after_event
stays s k e = ended_none s.core.ended (slice_get s.core.harts k) s k e

pub idle : (s : State) (k : ℕ) → ¬ IsEffective s.core k → after_event s k ≡ s
idle s k e = stays s k (is_false (is_effective s.core k) e)
  where
    is_false : (b : Bool) → ¬ IsTrue b → b ≡ false
    is_false true n = absurd (n refl)
    is_false false n = refl

pub ended_before : (o : Option End) (b : Bool) → IsSome o → goes_before o b ≡ false
ended_before None b e = absurd (cc)
ended_before (Some end) b e = refl

pub after_ending : (s : State) (order : List ℕ) → IsSome s.core.ended → after_events s order ≡ s
after_ending s [] e = refl
after_ending s (k ∷ rest) e =
    let here = stays s k (ended_before s.core.ended (goes_in (slice_get s.core.harts k)) e) in
    ap (λ (t : State). after_events t rest) here ∙ after_ending s rest e

pub append : (s : State) (first second : List ℕ) → after_events s (first ++ second) ≡ after_events (after_events s first) second
append s [] second = refl
append s (k ∷ rest) second = append (after_event s k) rest second
