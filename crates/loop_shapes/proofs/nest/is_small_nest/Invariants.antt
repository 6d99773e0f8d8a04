use Rattle.std.proofs.Common.{ℕ, ◌<◌, get_or}
use Rattle.loop_data.specs.Early.{IsRound}
use Rattle.loop_shapes.specs.Program.{program_graph}
use Rattle.loop_data.specs.Sets.{IsListOf, HasAtMost}
use Rattle.loop_data.specs.Shape.{InNest}
use Rattle.loop_shapes.proofs.nest.is_small_nest.Given as goal

abbrev pub invariant-loop-x : goal.invariant-loop-x
invariant-loop-x l = (h k : ℕ) → IsListOf (InNest (program_graph l.program) h) l.nest → k < l.x-index → HasAtMost 2 (IsRound (program_graph l.program) h (get_or l.nest k 0))
