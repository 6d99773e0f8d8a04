use Rattle.std.proofs.Common.{◌≡◌, ◌↔◌, ℕ, ◌<◌, true, false, length, get_or}
use Rattle.loop_shapes.specs.Outer.{IsCrowded}
use Rattle.loop_shapes.specs.Places.{at}
use Rattle.loop_shapes.specs.Program.{program_graph}
use Rattle.loop_data.specs.Shape.{IsShaped}
use Rattle.loop_shapes.proofs.OuterLoops.{AreKnownBelow}
use Rattle.loop_shapes.proofs.nest.nest_flags.Given as goal

abbrev pub invariant-loop-place : goal.invariant-loop-place
invariant-loop-place l = (((length l.shaped.items ≡ l.place) × ((i : ℕ) → i < l.place → (get_or l.shaped.items i false ≡ true) ↔ IsShaped (program_graph l.program) (at (program_graph l.program) i))) × AreKnownBelow (program_graph l.program) (IsCrowded (program_graph l.program)) l.place l.crowded.items)
