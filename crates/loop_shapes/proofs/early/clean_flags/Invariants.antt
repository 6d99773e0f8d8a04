use Rattle.loop_shapes.specs.Outer.{IsClean}
use Rattle.loop_shapes.specs.Program.{program_graph}
use Rattle.loop_shapes.proofs.OuterLoops.{AreKnownBelow}
use Rattle.loop_shapes.proofs.early.clean_flags.Given as goal

abbrev pub invariant-loop-place : goal.invariant-loop-place
invariant-loop-place l = AreKnownBelow (program_graph l.program) (IsClean (program_graph l.program)) l.place l.all.items
