-- Edges of which some are taken out.
use Rattle.std.specs.Prelude.{ℕ, ◌≡◌, ◌<◌, ◌↔◌, List, length}
use Rattle.std.specs.List.{Contains}
use Rattle.strong_components.specs.declared.graph.Successors.{Successors}
use Rattle.strong_components.specs.Graph.{IsEdge}
use Rattle.loop_data.specs.declared.graph.Graph.{Graph}
use Rattle.loop_data.specs.Paths.{Leads}
use Rattle.loop_data.specs.Bodies.{IsClosed}
use Rattle.loop_shapes.specs.Places.{count_of, at}
use Rattle.loop_data.specs.Flows.{row_at}

-- an edge that is not closed
pub record IsOpenStep (G : Graph) (x y : ℕ) : Type 0 where
  pub edge : Leads G x y
  pub open_edge : ¬ IsClosed G y x

-- the edges to one place from some
pub record IsCut (to : ℕ) (from : List ℕ) (old new : List Successors) : Type 0 where
  pub count : length new ≡ length old
  pub each : (a b : ℕ) → IsEdge new a b ↔ (IsEdge old a b × ¬ ((b ≡ to) × Contains from a))

-- those to the places before one
pub record AreCutBelow (rows : List (List ℕ)) (n : ℕ) (old new : List Successors) : Type 0 where
  pub count : length new ≡ length old
  pub each : (a b : ℕ) → IsEdge new a b ↔ (IsEdge old a b × ¬ ((b < n) × Contains (row_at rows b) a))

-- those to all places
pub record AreCut (rows : List (List ℕ)) (old new : List Successors) : Type 0 where
  pub count : length new ≡ length old
  pub each : (a b : ℕ) → IsEdge new a b ↔ (IsEdge old a b × ¬ Contains (row_at rows b) a)

-- the edges that are not closed
pub record AreOpen (G : Graph) (nodes : List Successors) : Type 0 where
  pub count : length nodes ≡ count_of G
  pub each : (a b : ℕ) → IsEdge nodes a b ↔ ((a < count_of G) × (b < count_of G) × IsOpenStep G (at G a) (at G b))
