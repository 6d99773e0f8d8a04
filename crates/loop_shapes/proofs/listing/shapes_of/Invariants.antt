use Rattle.loop_shapes.specs.Below.{AreLoopsBelow}
use Rattle.loop_shapes.specs.Program.{program_graph}
use Rattle.loop_shapes.proofs.listing.shapes_of.Given as goal

abbrev pub invariant-loop-place : goal.invariant-loop-place
invariant-loop-place l = AreLoopsBelow (program_graph l.program) l.place l.all.items
