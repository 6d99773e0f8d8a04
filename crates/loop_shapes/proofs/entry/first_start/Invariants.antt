use Rattle.std.proofs.Common.{ℕ, ◌<◌, get_or}
use Rattle.loop_shapes.specs.Entry.{IsStartWord}
use Rattle.loop_shapes.specs.Net.{graph_of}
use Rattle.loop_shapes.proofs.entry.first_start.Given as goal

abbrev pub invariant-loop-x : goal.invariant-loop-x
invariant-loop-x l = (k : ℕ) → k < l.x-index → IsStartWord (graph_of l.net) (get_or l.xs k 0) → ⊥
