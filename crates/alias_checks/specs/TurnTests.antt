-- How many turns there are, and how many passes of the inner loops.
use Rattle.std.specs.Prelude.{ℕ, suc, ◌-◌, ◌^◌, ◌≤◌, nat_le, nat_lt, if◌then◌else◌, List, [], ◌∷◌, ℤ, pos, negsuc, ◌≤ℤ◌, ◌<ℤ◌, Option, Some, None, slice_get, slice_index}
use Rattle.loop_data.specs.declared.trips.Trip.{Trip}
use Rattle.loop_data.specs.Trips.{number_of_stays}
use Rattle.alias_checks.specs.declared.lists.Turns.{Turns}

-- a word as a branch reads it
pub record IsReading (z : ℤ) : Type 0 where
  pub low : negsuc (2 ^ 63 - 1) ≤ℤ z
  pub high : z <ℤ pos (2 ^ 64)

-- a number, where it is at most this one
abbrev pub up_to : ℕ → Option ℕ → Option ℕ
up_to most (Some n) = if nat_le n most then Some n else None
up_to most None = None

-- the number of turns that stay, if the trip tells one and it is at most 2 ^ 31
unfoldable pub few_stays : Trip → (ℕ → ℤ) → Option ℕ
few_stays t e = up_to (2 ^ 31) (number_of_stays t e)

-- the turns of the root are at least 16
abbrev pub root_turns : Option ℕ → Option ℕ
root_turns (Some p) = if nat_le 16 p then Some p else None
root_turns None = None

-- the passes of an inner loop, one more than stay in it, are at most 2 ^ 31
abbrev pub passes_of : Option ℕ → Option ℕ
passes_of (Some n) = if nat_lt n (2 ^ 31) then Some (suc n) else None
passes_of None = None

abbrev pub root_by : Option Trip → (ℕ → ℤ) → Option ℕ
root_by (Some t) e = root_turns (few_stays t e)
root_by None e = None

-- one pass where there is no such loop
abbrev pub passes_by : Option Trip → (ℕ → ℤ) → Option ℕ
passes_by (Some t) e = passes_of (few_stays t e)
passes_by None e = Some 1

abbrev pub turns_with : Option ℕ → Option ℕ → Option ℕ → Option ℕ → Option Turns
turns_with (Some p) (Some i) (Some j) (Some k) = Some (record { root = p; inner = i ∷ j ∷ k ∷ [] })
turns_with _ _ _ _ = None

-- the turns and passes that the trips tell, where the locations have these values at the entry
unfoldable pub turns_of : List Trip → (ℕ → ℤ) → Option Turns
turns_of trips e =
    turns_with (root_by (slice_get trips 0) e) (passes_by (slice_get trips 1) e) (passes_by (slice_get trips 2) e)
    (passes_by (slice_get trips 3) e)

-- the last turn of the root, and the last pass of each inner loop
abbrev pub last_of : Turns → List ℕ
last_of t =
    (t.root - 1)
    ∷ (slice_index t.inner 0 - 1) ∷ (slice_index t.inner 1 - 1) ∷ (slice_index t.inner 2 - 1) ∷ []

-- the limits of turns, and of passes
pub record AreRootTurns (p : ℕ) : Type 0 where
  pub some : 16 ≤ p
  pub few : p ≤ 2 ^ 31

pub record ArePasses (n : ℕ) : Type 0 where
  pub some : 1 ≤ n
  pub few : n ≤ 2 ^ 31

pub record AreFew (t : Turns) : Type 0 where
  pub root : AreRootTurns t.root
  pub first : ArePasses (slice_index t.inner 0)
  pub second : ArePasses (slice_index t.inner 1)
  pub third : ArePasses (slice_index t.inner 2)
