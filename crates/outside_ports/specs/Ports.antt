-- What sources, sinks and stores do with bytes, names and counts of faults.
use Rattle.std.specs.Prelude.{ℕ, ◌≡◌, ◌≢◌, ◌+◌, ◌-◌, ◌^◌, ◌<◌, ◌≤◌, List, [], length, take, drop, min, Option, Some, None, IsSomeAnd}

-- a count of faults rose, or stands at its end
abbrev pub Rose : ℕ → ℕ → Type 0
Rose before now = min (before + 1) (2 ^ 64 - 1) ≤ now

-- the first k bytes of xs were moved to the front of a buffer, and `rest` tells the others; none of
-- them only for a buffer without room or at the end
pub record Moved (xs : List ℕ) (rest : Option (List ℕ)) (k : ℕ) (buffer : List ℕ) : Type 0 where
  pub within : k ≤ length xs
  pub front : take k buffer ≡ take k xs
  pub others : rest ≡ Some (drop k xs)
  pub at_end : k ≡ 0 → 0 < length buffer → xs ≡ []

-- the bytes under each name, or none where there is no such name
abbrev pub Files : Type 0
Files = List ℕ → Option (List ℕ)

-- a store that tells its files has no such name
abbrev pub Lacks : Option Files → List ℕ → Type 0
Lacks files name = IsSomeAnd files (λ m. m name ≡ None)

-- there are bytes, and more than the limit
abbrev pub PassesLimit : Option (List ℕ) → ℕ → Type 0
PassesLimit content limit = IsSomeAnd content (λ bytes. limit < length bytes)

-- a store that tells no files: how many faults it has met, and how many of them were saves that failed
pub record StoreCounts : Type 0 where
  pub faults : ℕ
  pub failed_saves : ℕ

-- the files are told, and those under all other names are as before
abbrev pub SameButIn : Files → Option Files → List ℕ → Type 0
SameButIn m files name = IsSomeAnd files (λ n. (other : List ℕ) → other ≢ name → n other ≡ m other)

-- the files are told: these bytes under the name, and all other names as before
abbrev pub SavedIn : Files → Option Files → List ℕ → List ℕ → Type 0
SavedIn m files name bytes =
    IsSomeAnd files (λ n. (n name ≡ Some bytes) × ((other : List ℕ) → other ≢ name → n other ≡ m other))
