use Rattle.std.proofs.Common.{◌≡◌, ◌↔◌, ◌<◌, ℕ, length}
use Rattle.strong_components.specs.Graph.{IsEdge}
use Rattle.loop_shapes.specs.Net.{graph_of}
use Rattle.loop_data.specs.Paths.{Leads}
use Rattle.loop_shapes.specs.Places.{count_of, at}
use Rattle.loop_shapes.proofs.numbers.nodes.Given as goal

abbrev pub invariant-loop-place : goal.invariant-loop-place
invariant-loop-place l = (length l.all.items ≡ l.place) × ((a b : ℕ) → IsEdge l.all.items a b ↔ ((a < l.place) × (b < count_of (graph_of l.net)) × Leads (graph_of l.net) (at (graph_of l.net) a) (at (graph_of l.net) b)))
