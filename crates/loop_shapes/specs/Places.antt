-- The words of a program by their places in address order.
use Rattle.std.specs.Prelude.{ℕ, ◌≡◌, ◌<◌, ◌⊎◌, ◌↔◌, Bool, true, false, List, length, slice_index, slice_index_or}
use Rattle.std.specs.List.{Contains}
use Rattle.loop_data.specs.declared.graph.Graph.{Graph}
use Rattle.loop_data.specs.Paths.{addresses, Leads}
use Rattle.loop_data.specs.Flows.{row_at}

-- how many reached words there are
abbrev pub count_of : Graph → ℕ
count_of G = length (addresses G)

-- the address at a place
abbrev pub at : Graph → ℕ → ℕ
at G i = slice_index (addresses G) i

-- each row has the places below i of the words that lead to the word at its place
pub record HasPredecessors (G : Graph) (i : ℕ) (rows : List (List ℕ)) : Type 0 where
  pub count : length rows ≡ count_of G
  pub each : (j k : ℕ) → Contains (row_at rows j) k → (k < i) × Leads G (at G k) (at G j)
  pub every : (j k : ℕ) → k < i → j < count_of G → Leads G (at G k) (at G j) → Contains (row_at rows j) k

-- the flags tell which words are in the set
pub record AreFlags (G : Graph) (P : ℕ → Type 0) (flags : List Bool) : Type 0 where
  pub count : length flags ≡ count_of G
  pub each : (i : ℕ) → i < count_of G → (slice_index_or flags i false ≡ true) ↔ P (at G i)

-- the new flags are the old ones with one more set, at the place of x
pub record Marked (addresses : List ℕ) (x : ℕ) (old new : List Bool) : Type 0 where
  pub count : length new ≡ length old
  pub each : (i : ℕ) → i < length addresses → (slice_index_or new i false ≡ true)
      ↔ ((slice_index_or old i false ≡ true) ⊎ (slice_index addresses i ≡ x))
