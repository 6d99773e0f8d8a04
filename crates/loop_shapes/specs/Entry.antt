-- The least of some edges.
use Rattle.std.specs.Prelude.{ℕ, ◌≡◌, ◌<◌, ◌≤◌, ◌⊎◌, List}
use Rattle.std.specs.List.{Contains}
use Rattle.loop_data.specs.declared.graph.Graph.{Graph}
use Rattle.loop_data.specs.Paths.{IsWord}

-- an edge is at or before another, by its source and then by its target
abbrev pub IsBefore : ℕ × ℕ → ℕ × ℕ → Type 0
IsBefore a b = (a.0 < b.0) ⊎ ((a.0 ≡ b.0) × (a.1 ≤ b.1))

pub record IsLeastEdge (all : List (ℕ × ℕ)) (e : ℕ × ℕ) : Type 0 where
  pub among : Contains all e
  pub least : (f : ℕ × ℕ) → Contains all f → IsBefore e f

-- a start word that is a reached word
pub record IsStartWord (G : Graph) (x : ℕ) : Type 0 where
  pub word : IsWord G x
  pub start : Contains G.starts x

-- such a word among others
pub record IsStartAmong (G : Graph) (xs : List ℕ) (x : ℕ) : Type 0 where
  pub among : Contains xs x
  pub start : IsStartWord G x
