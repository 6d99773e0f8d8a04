use Rattle.loop_shapes.specs.Outer.{IsAcyclic}
use Rattle.loop_shapes.specs.Program.{program_graph}
use Rattle.loop_shapes.proofs.OuterLoops.{AreKnownBelow}
use Rattle.loop_shapes.proofs.nest.acyclic_flags.Given as goal

abbrev pub invariant-loop-place : goal.invariant-loop-place
invariant-loop-place l = AreKnownBelow (program_graph l.program) (IsAcyclic (program_graph l.program)) l.place l.all.items
