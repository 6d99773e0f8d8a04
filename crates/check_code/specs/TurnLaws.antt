-- What the words that tell turns do wherever they stand in added code. A hart whose known locations hold these values
-- goes on to their end where the check takes the turns or passes that the trip tells, with the number of the last in
-- the slot, and to the target of the open jumps elsewhere. It writes no memory, and makes no access.
use Rattle.std.specs.Prelude.{ℕ, ◌≡◌, ◌==◌, ◌+◌, ◌-◌, ◌<◌, ◌||◌, Bool, true, List, [], ℤ, pos, Option, Some, is_some}
use Rattle.rv64_decode.specs.Area.{Area}
use Rattle.linear_forms.specs.Forms.{IsForm, is_small, pure}
use Rattle.loop_data.specs.Trips.{approaches}
use Rattle.loop_data.specs.declared.trips.Relation.TheVariants.{Differ}
use Rattle.loop_data.specs.declared.trips.Trip.{Trip}
use Rattle.alias_checks.specs.TurnTests.{few_stays, root_turns, passes_of}
use Rattle.stub_laws.specs.Code.{readings, somes}
use Rattle.stub_laws.specs.Harts.{Checked}
use Rattle.check_code.specs.Rounds.{AreKnown}
use Rattle.check_code.specs.TurnCode.{root_code, inner_code}

-- what the trip of a loop has: its step leads to where the relation ends, and only a difference is compared with 0
pub record IsTrip (t : Trip) : Type 0 where
  pub start : IsForm t.start
  pub bound : IsForm t.bound
  pub small : is_small t.step ≡ true
  pub toward : approaches t.relation t.step ≡ true
  pub differs : t.relation ≡ Differ → (t.signed ≡ true) × (t.bound ≡ pure (pos 0))

-- the locations of its forms are known
pub record IsTripKnown (known : ℕ → Bool) (t : Trip) : Type 0 where
  pub start : AreKnown known t.start.terms
  pub bound : AreKnown known t.bound.terms

-- what the locations hold, as integers
abbrev pub as_integers : (ℕ → ℕ) → ℕ → ℤ
as_integers e loc = pos (e loc)

-- the turns of the root, and the passes of an inner loop, that a check takes
abbrev pub root_of : Trip → (ℕ → ℕ) → Option ℕ
root_of t e = root_turns (few_stays t (as_integers e))

abbrev pub passes_in : Trip → (ℕ → ℕ) → Option ℕ
passes_in t e = passes_of (few_stays t (as_integers e))

abbrev pub root_holds : Trip → (ℕ → ℕ) → Bool
root_holds t e = is_some (root_of t e)

abbrev pub inner_holds : Trip → (ℕ → ℕ) → Bool
inner_holds t e = is_some (passes_in t e)

-- one location more is known
abbrev pub with_known : (ℕ → Bool) → ℕ → ℕ → Bool
with_known known new loc = known loc || (loc == new)

-- known locations are registers and slots
abbrev pub AreInReach : (ℕ → Bool) → Type 0
AreInReach known = (loc : ℕ) → known loc ≡ true → loc < 64

-- location 55 is slot 23
abbrev pub RootLaw : Type 0
RootLaw = (m : List Area) (known : ℕ → Bool) (e : ℕ → ℕ) (t : Trip) (words : List ℕ) → IsTrip t → IsTripKnown known t
    → AreInReach known → ((p : ℕ) → root_of t e ≡ Some p → e 55 ≡ p - 1) → readings words ≡ somes (root_code t)
    → Checked m known (with_known known 55) e words (root_holds t e) []

-- location 56 + k is slot 24 + k, of the inner loop with this index
abbrev pub InnerLaw : Type 0
InnerLaw = (m : List Area) (known : ℕ → Bool) (e : ℕ → ℕ) (t : Trip) (k : ℕ) (words : List ℕ) → IsTrip t
    → IsTripKnown known t → AreInReach known → k < 3 → ((n : ℕ) → passes_in t e ≡ Some n → e (56 + k) ≡ n - 1)
    → readings words ≡ somes (inner_code (24 + k) t)
    → Checked m known (with_known known (56 + k)) e words (inner_holds t e) []
