use Rattle.std.proofs.Common.{◌≡◌, ◌↔◌, ℕ, ◌<◌, true, false, length, get_or}
use Rattle.loop_shapes.specs.Outer.{IsUnsound}
use Rattle.loop_shapes.specs.Places.{at}
use Rattle.loop_shapes.specs.Program.{program_graph}
use Rattle.loop_shapes.proofs.marks.unsound_flags.Given as goal

abbrev pub invariant-loop-place : goal.invariant-loop-place
invariant-loop-place l = (length l.all.items ≡ l.place) × ((i : ℕ) → i < l.place → (get_or l.all.items i false ≡ true) ↔ IsUnsound (program_graph l.program) (at (program_graph l.program) i))
