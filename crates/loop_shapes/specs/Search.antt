-- A search backwards along step edges, over places.
use Rattle.std.specs.Prelude.{ℕ, ◌≡◌, ◌≢◌, ◌<◌, ◌≤◌, ◌⊎◌, ◌↔◌, ◌∷◌, [], Bool, MatchBool, Option, Some, None, List, length}
use Rattle.std.specs.Prelude.{slice_index, slice_index_or}
use Rattle.std.specs.List.{Contains}
use Rattle.loop_data.specs.Paths.{Reaches}
use Rattle.loop_shapes.specs.Sets.{HasOver}
use Rattle.loop_shapes.specs.Gains.{HasAll}
use Rattle.loop_data.specs.Flows.{row_at}

-- each number found stands at its slot
pub record IsIndexed (found slots : List ℕ) : Type 0 where
  pub below : (k : ℕ) → k < length found → slice_index found k < length slots
  pub slot : (k : ℕ) → k < length found → slice_index slots (slice_index found k) ≡ k

-- the numbers found before, in their places, and those of xs
pub record Grown (old xs new : List ℕ) : Type 0 where
  pub longer : length old ≤ length new
  pub same : (k : ℕ) → k < length old → slice_index new k ≡ slice_index old k
  pub each : (y : ℕ) → Contains new y → Contains old y ⊎ Contains xs y
  pub every : (y : ℕ) → Contains xs y → Contains new y

-- 256 numbers found, and one more among xs
pub record IsFull (old xs found : List ℕ) : Type 0 where
  pub count : length found ≡ 256
  pub each : (y : ℕ) → Contains found y → Contains old y ⊎ Contains xs y
  pub extra : ℕ
  pub among : Contains xs extra
  pub absent : ¬ Contains found extra

-- what is found, or that there is more than can be
pub record HasRoom (old xs found slots : List ℕ) : Type 0 where
  pub grown : Grown old xs found
  pub bound : length found ≤ 256
  pub indexed : IsIndexed found slots

pub record HasNoRoom (old xs found slots : List ℕ) : Type 0 where
  pub full : IsFull old xs found
  pub indexed : IsIndexed found slots

abbrev pub HasTried : Bool → List ℕ → List ℕ → List ℕ → List ℕ → Type 0
HasTried room old xs found slots = MatchBool room (HasRoom old xs found slots) (HasNoRoom old xs found slots)

-- a row has these two numbers and no other
abbrev pub IsPair : List ℕ → ℕ → ℕ → Type 0
IsPair row a b = (x : ℕ) → Contains row x ↔ Contains (a ∷ b ∷ []) x

-- the two numbers of rows, where there are no more
pub record ArePairs (rows : List (List ℕ)) (pairs : List (Option (ℕ × ℕ))) : Type 0 where
  pub count : length pairs ≡ length rows
  pub each : (i : ℕ) → i < length pairs → (p : ℕ × ℕ) → slice_index_or pairs i None ≡ Some p
      → IsPair (row_at rows i) p.0 p.1

-- the word at one place leads to that at another
abbrev pub RowLeads : List (List ℕ) → ℕ → ℕ → Type 0
RowLeads rows i j = Contains (row_at rows j) i

-- from i one of some places is reached without passing h
pub record ReachesOne (rows : List (List ℕ)) (h : ℕ) (us : List ℕ) (i : ℕ) : Type 0 where
  pub source : ℕ
  pub among : Contains us source
  pub way : Reaches (RowLeads rows) (λ j. j ≢ h) i source

-- the places of the words that edges from us to h close into a loop
abbrev pub InPlaces : List (List ℕ) → ℕ → List ℕ → ℕ → Type 0
InPlaces rows h us i = (i ≡ h) ⊎ ReachesOne rows h us i

-- at most 256 places, those of a set
abbrev pub AreFew : (ℕ → Type 0) → List ℕ → Type 0
AreFew P found = (length found ≤ 256) × HasAll P found

-- what a search finds
abbrev pub HasSearched : Bool → List (List ℕ) → ℕ → List ℕ → List ℕ → Type 0
HasSearched small rows h us found = MatchBool small (AreFew (InPlaces rows h us) found)
    (HasOver 256 (InPlaces rows h us))
