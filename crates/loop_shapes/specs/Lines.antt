-- The listed edges to a word, by places.
use Rattle.std.specs.Prelude.{ℕ, ◌≡◌, ◌<◌, Bool, MatchBool, List, length}
use Rattle.std.specs.List.{Contains}
use Rattle.loop_data.specs.declared.graph.Graph.{Graph}
use Rattle.loop_data.specs.Bodies.{InPart, InBody}
use Rattle.loop_shapes.specs.Places.{count_of, at}
use Rattle.loop_data.specs.Sets.{HasAtMost}
use Rattle.loop_data.specs.Flows.{row_at}

-- the places of the words in a relation to the word at a place
pub record IsRowOf (G : Graph) (R : ℕ → ℕ → Type 0) (g : ℕ) (row : List ℕ) : Type 0 where
  pub each : (i : ℕ) → Contains row i → (i < count_of G) × R (at G g) (at G i)
  pub every : (i : ℕ) → i < count_of G → R (at G g) (at G i) → Contains row i

-- for each word, those places
pub record AreRowsOf (G : Graph) (R : ℕ → ℕ → Type 0) (rows : List (List ℕ)) : Type 0 where
  pub count : length rows ≡ count_of G
  pub each : (g : ℕ) → g < count_of G → IsRowOf G R g (row_at rows g)

-- the words of the edge from one of these places pass the limit
pub record IsLargeAmong (G : Graph) (header : ℕ) (row : List ℕ) : Type 0 where
  pub place : ℕ
  pub among : Contains row place
  pub large : ¬ HasAtMost 256 (InPart G (at G header) (at G place))

-- whether there is one
abbrev pub HasLarge : Bool → Graph → ℕ → List ℕ → Type 0
HasLarge b G header row = MatchBool b (IsLargeAmong G header row)
    ((i : ℕ) → Contains row i → HasAtMost 256 (InPart G (at G header) (at G i)))

-- a loop has both words
pub record AreShared (G : Graph) (x y : ℕ) : Type 0 where
  pub header : ℕ
  pub first : InBody G header x
  pub second : InBody G header y
