use Rattle.std.proofs.Common.{ℕ, ◌<◌, get_or}
use Rattle.loop_data.specs.Paths.{IsWord}
use Rattle.loop_shapes.specs.Net.{graph_of}
use Rattle.loop_shapes.proofs.numbers.leads_astray.Given as goal

abbrev pub invariant-loop-y : goal.invariant-loop-y
invariant-loop-y l = (k : ℕ) → k < l.y-index → IsWord (graph_of l.net) (get_or l.y-items k 0)
