-- Directed graphs over indices, and their paths.
use Rattle.std.specs.Prelude.{ℕ, ◌≡◌, ◌<◌, ◌⊎◌, List, length, [], ◌∷◌, Some, slice_get}
use Rattle.strong_components.specs.declared.graph.Successors.{Successors}

-- one of a node's edges leads to b
abbrev pub LeadsTo : Successors → ℕ → Type 0
LeadsTo node b = (node.first ≡ Some b) ⊎ (node.second ≡ Some b)

-- an edge leads from a to b
pub record IsEdge (nodes : List Successors) (a b : ℕ) : Type 0 where
  pub node : Successors
  pub is : slice_get nodes a ≡ Some node
  pub leads : LeadsTo node b

-- every edge leads to a node
pub record LeadsInside (nodes : List Successors) : Type 0 where
  pub inside : (a b : ℕ) → IsEdge nodes a b → b < length nodes

-- from a the nodes of a list lead, in order, to b
abbrev pub IsPath : List Successors → List ℕ → ℕ → ℕ → Type 0
IsPath nodes [] a b = a ≡ b
IsPath nodes (x ∷ xs) a b = IsEdge nodes a x × IsPath nodes xs x b

-- a path leads from a to b
pub record HasPath (nodes : List Successors) (a b : ℕ) : Type 0 where
  pub through : List ℕ
  pub path : IsPath nodes through a b
