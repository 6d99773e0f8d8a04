use Rattle.std.proofs.Common.{take}
use Rattle.loop_shapes.specs.Program.{program_graph}
use Rattle.loop_shapes.proofs.Headers.{HeadersSoFar}
use Rattle.loop_shapes.proofs.nest.headers_of.Given as goal

abbrev pub invariant-loop-place : goal.invariant-loop-place
invariant-loop-place l = HeadersSoFar (program_graph l.program) (take l.place-index l.place-items) l.all.items
