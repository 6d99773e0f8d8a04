use Rattle.std.proofs.Common.{ℕ, ◌≡◌, ◌<◌, length, Some}
use Rattle.std.specs.List.{slice_get}
use Rattle.strong_components.specs.declared.graph.Successors.{Successors}
use Rattle.strong_components.specs.Graph.{LeadsTo}
use Rattle.strong_components.proofs.graph.leads_inside.Given as goal

abbrev pub invariant-loop-node : goal.invariant-loop-node
invariant-loop-node l = (a b : ℕ) (node : Successors) → a < l.node-index → slice_get l.nodes a ≡ Some node → LeadsTo node b → b < length l.nodes
