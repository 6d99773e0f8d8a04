-- Edges between sets of addresses.
use Rattle.std.specs.Prelude.{ℕ, ◌≡◌, Bool, MatchBool, List}
use Rattle.std.specs.List.{Contains}
use Rattle.loop_data.specs.declared.graph.Graph.{Graph}
use Rattle.loop_data.specs.Paths.{Leads}

-- an address among others, or not among them
abbrev pub IsChosen : Bool → List ℕ → ℕ → Type 0
IsChosen inside xs y = MatchBool inside (Contains xs y) (¬ Contains xs y)

-- the edge from x, where it leads inside or outside
pub record IsEdgeFrom (G : Graph) (to : List ℕ) (inside : Bool) (x : ℕ) (e : ℕ × ℕ) : Type 0 where
  pub source : e.0 ≡ x
  pub edge : Leads G x e.1
  pub chosen : IsChosen inside to e.1

-- an edge from one of these addresses, where it leads inside or outside
pub record IsEdgeBetween (G : Graph) (from to : List ℕ) (inside : Bool) (e : ℕ × ℕ) : Type 0 where
  pub source : Contains from e.0
  pub edge : Leads G e.0 e.1
  pub chosen : IsChosen inside to e.1
