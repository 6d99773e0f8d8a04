use Rattle.std.proofs.Common.{ℕ, ◌<◌, get_or}
use Rattle.loop_data.specs.Bodies.{IsHeader}
use Rattle.loop_shapes.specs.Places.{at}
use Rattle.loop_shapes.specs.Program.{program_graph}
use Rattle.loop_data.specs.Shape.{IsShaped}
use Rattle.loop_shapes.proofs.marks.has_unshaped.Given as goal

abbrev pub invariant-loop-place : goal.invariant-loop-place
invariant-loop-place l = (k : ℕ) → k < l.place-index → ¬ (IsHeader (program_graph l.program) (at (program_graph l.program) (get_or l.found k 0)) × ¬ IsShaped (program_graph l.program) (at (program_graph l.program) (get_or l.found k 0)))
