-- Ranks of words, by which edges are told that lead on.
use Rattle.std.specs.Prelude.{ℕ, ◌≡◌, ◌<◌, ◌⊎◌, List, length, slice_index}
use Rattle.std.specs.List.{Contains}
use Rattle.loop_data.specs.declared.graph.Graph.{Graph}
use Rattle.loop_data.specs.Paths.{Leads}
use Rattle.loop_shapes.specs.Places.{count_of, at}

-- a ranked word of lower rank leads to that at i
pub record HasLower (G : Graph) (ranks : List ℕ) (i : ℕ) : Type 0 where
  pub place : ℕ
  pub within : place < count_of G
  pub edge : Leads G (at G place) (at G i)
  pub ranked : 0 < slice_index ranks place
  pub lower : slice_index ranks place < slice_index ranks i

-- the ranks of words, 0 where a word has none: one that has is a start word, or a word of lower rank leads to it
pub record AreRanks (G : Graph) (ranks : List ℕ) : Type 0 where
  pub count : length ranks ≡ count_of G
  pub each : (i : ℕ) → i < count_of G → 0 < slice_index ranks i → Contains G.starts (at G i) ⊎ HasLower G ranks i

-- ranks that are all below a number
pub record AreRanksBelow (G : Graph) (n : ℕ) (ranks : List ℕ) : Type 0 where
  pub are : AreRanks G ranks
  pub below : (i : ℕ) → i < count_of G → slice_index ranks i < n

-- a number of the list has a rank
pub record HasRanked (ranks xs : List ℕ) : Type 0 where
  pub place : ℕ
  pub among : Contains xs place
  pub ranked : 0 < slice_index ranks place
