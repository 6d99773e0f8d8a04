-- The listed loops at the words before a place.
use Rattle.std.specs.Prelude.{ℕ, ◌≡◌, ◌<◌, ◌⊎◌, Option, MatchOption, List}
use Rattle.std.specs.List.{All, Contains}
use Rattle.std.specs.List.Sorted.{IsStrictlyIncreasing}
use Rattle.loop_data.specs.declared.graph.Graph.{Graph}
use Rattle.loop_data.specs.declared.shape.LoopShape.{LoopShape}
use Rattle.loop_data.specs.Bodies.{IsHeader}
use Rattle.loop_data.specs.Listed.{IsListed}
use Rattle.loop_data.specs.Loops.{IsLoop, IsListedEdge, headers_of}
use Rattle.loop_shapes.specs.Places.{count_of, at}

-- the listed loop at an address
pub record IsListedAt (G : Graph) (x : ℕ) (s : LoopShape) : Type 0 where
  pub header : s.header ≡ x
  pub is : IsLoop G s ⊎ IsListedEdge G s

-- no loop is listed at an address
pub record IsUnlisted (G : Graph) (x : ℕ) : Type 0 where
  pub no_loop : ¬ IsHeader G x
  pub no_edge : (u : ℕ) → ¬ IsListed G x u

-- the listed loop at an address, where there is one
abbrev pub HasShapeAt : Graph → ℕ → Option LoopShape → Type 0
HasShapeAt G x o = MatchOption o (IsUnlisted G x) (IsListedAt G x)

-- an address of a word before a place
pub record IsBelow (G : Graph) (n x : ℕ) : Type 0 where
  pub place : ℕ
  pub below : place < n
  pub within : place < count_of G
  pub is : at G place ≡ x

-- the listed loops at the words before a place
pub record AreLoopsBelow (G : Graph) (n : ℕ) (shapes : List LoopShape) : Type 0 where
  pub ordered : IsStrictlyIncreasing (headers_of shapes)
  pub each : All (λ s. IsLoop G s ⊎ IsListedEdge G s) shapes
  pub below : (x : ℕ) → Contains (headers_of shapes) x → IsBelow G n x
  pub loops : (i : ℕ) → i < n → IsHeader G (at G i) → Contains (headers_of shapes) (at G i)
  pub edges : (i u : ℕ) → i < n → IsListed G (at G i) u → Contains (headers_of shapes) (at G i)
