-- The laws of turns and duties, wherever their words stand.
use Rattle.std.proofs.Common.{◌≡◌, ℕ, ◌+◌, ◌-◌, ◌<◌, ◌^◌, refl, arith, Bool, true, false, List, [], Some}
use Rattle.std.specs.Prelude.{◌==◌, ◌||◌}
use Rattle.std.specs.List.{All}
use Rattle.rv64_decode.specs.Area.{Area}
use Rattle.linear_forms.specs.Forms.{IsForm}
use Rattle.loop_data.specs.declared.equations.Duty.{Duty}
use Rattle.loop_data.specs.declared.trips.Trip.{Trip}
use Rattle.alias_checks.specs.AccessTests.{duty_fits}
use Rattle.stub_laws.specs.Code.{readings, somes}
use Rattle.stub_laws.specs.Harts.{Checked}
use Rattle.stub_laws.proofs.Known.{also, same_number}
use Rattle.stub_laws.proofs.Tests.{Known}
use Rattle.stub_laws.proofs.Logs.{at, lifted}
use Rattle.stub_laws.proofs.Ends.{checked}
use Rattle.check_code.specs.Rounds.{last_from, AreRoundsKnown}
use Rattle.check_code.specs.TurnCode.{root_code, inner_code}
use Rattle.check_code.specs.TurnLaws.{IsTrip, IsTripKnown, as_integers, root_of, passes_in, root_holds, inner_holds, with_known, AreInReach}
use Rattle.check_code.specs.DutyCode.{duty_code}
use Rattle.check_code.proofs.TripTruths.{root_law, inner_law, inner_slot}
use Rattle.check_code.proofs.DutyRuns.{duty_law}

one_more : (known : ℕ → Bool) (new : ℕ) → AreInReach known → new < 64 → AreInReach (with_known known new)
one_more known new h below loc = by_tests (known loc) (loc == new) refl refl
  where
    by_tests : (t u : Bool) → known loc ≡ t → (loc == new) ≡ u → (t || u) ≡ true → loc < 64
    by_tests true u a b c = h loc a
    by_tests false true a b c = let e = same_number loc new b in omega (arith, e, below)
    by_tests false false a b c = absurd (cc)

pub root_placed : (m : List Area) (known : ℕ → Bool) (e : ℕ → ℕ) (t : Trip) (words : List ℕ) → IsTrip t → IsTripKnown known t
    → AreInReach known → ((p : ℕ) → root_of t e ≡ Some p → e 55 ≡ p - 1) → readings words ≡ somes (root_code t)
    → Checked m known (with_known known 55) e words (root_holds t e) []
root_placed m known e t words ok k reach value is =
    checked m known (also known 55) e words (root_code t) (root_holds t e) [] is (one_more known 55 reach (omega arith))
    (λ w same. lifted w (Known known e) (Known known e) (Known (also known 55) e) (root_code t) (root_holds t e)
    (λ l. root_law (at w l) known e t ok k value))

pub inner_placed : (m : List Area) (known : ℕ → Bool) (e : ℕ → ℕ) (t : Trip) (k : ℕ) (words : List ℕ) → IsTrip t → IsTripKnown known t
    → AreInReach known → k < 3 → ((n : ℕ) → passes_in t e ≡ Some n → e (56 + k) ≡ n - 1) → readings words ≡ somes (inner_code (24 + k) t)
    → Checked m known (with_known known (56 + k)) e words (inner_holds t e) []
inner_placed m known e t k words ok has reach few value is =
    checked m known (also known (56 + k)) e words (inner_code (24 + k) t) (inner_holds t e) [] is
    (one_more known (56 + k) reach (omega (arith, few)))
    (λ w same. lifted w (Known known e) (Known known e) (Known (also known (56 + k)) e) (inner_code (24 + k) t) (inner_holds t e)
    (λ l. inner_law (at w l) known e (56 + k) (24 + k) t (inner_slot k few) ok has value))

pub duty_placed : (m : List Area) (known : ℕ → Bool) (e : ℕ → ℕ) (d : Duty) (words : List ℕ) → IsForm d.form
    → AreRoundsKnown known d.form d.around → AreInReach known → All (λ n. n < 2 ^ 31) (last_from e) → readings words ≡ somes (duty_code d)
    → Checked m known known e words (duty_fits (as_integers e) (last_from e) d) []
duty_placed m known e d words fine has reach low is =
    checked m known known e words (duty_code d) (duty_fits (as_integers e) (last_from e) d) [] is reach
    (λ w same. lifted w (Known known e) (Known known e) (Known known e) (duty_code d) (duty_fits (as_integers e) (last_from e) d)
    (λ l. duty_law (at w l) known e d fine has low))
