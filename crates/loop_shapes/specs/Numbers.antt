-- Which words lie on cycles together.
use Rattle.std.specs.Prelude.{ℕ, ◌≡◌, ◌<◌, ◌↔◌, List, length, slice_index}
use Rattle.strong_components.specs.Graph.{IsEdge}
use Rattle.strong_components.specs.declared.graph.Successors.{Successors}
use Rattle.loop_data.specs.declared.graph.Graph.{Graph}
use Rattle.loop_data.specs.Paths.{Leads, LeadsFar}
use Rattle.loop_shapes.specs.Places.{count_of, at}

-- the nodes have the step edges between words
pub record AreNodes (G : Graph) (nodes : List Successors) : Type 0 where
  pub count : length nodes ≡ count_of G
  pub each : (a b : ℕ) → IsEdge nodes a b → (a < count_of G) × (b < count_of G) × Leads G (at G a) (at G b)
  pub every : (a b : ℕ) → a < count_of G → b < count_of G → Leads G (at G a) (at G b) → IsEdge nodes a b

-- two words have the same number where each is reached from the other
pub record AreNumbers (G : Graph) (numbers : List ℕ) : Type 0 where
  pub count : length numbers ≡ count_of G
  pub same : (a b : ℕ) → a < count_of G → b < count_of G → (slice_index numbers a ≡ slice_index numbers b)
      ↔ (LeadsFar G (at G a) (at G b) × LeadsFar G (at G b) (at G a))
