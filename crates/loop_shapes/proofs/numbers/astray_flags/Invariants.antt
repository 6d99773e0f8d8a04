use Rattle.std.proofs.Common.{◌≡◌, ◌↔◌, ℕ, ◌<◌, true, false, length, get_or}
use Rattle.loop_shapes.specs.Astray.{LeadsAstray}
use Rattle.loop_shapes.specs.Net.{graph_of}
use Rattle.loop_shapes.specs.Places.{at}
use Rattle.loop_shapes.proofs.numbers.astray_flags.Given as goal

abbrev pub invariant-loop-place : goal.invariant-loop-place
invariant-loop-place l = (length l.all.items ≡ l.place) × ((i : ℕ) → i < l.place → (get_or l.all.items i false ≡ true) ↔ LeadsAstray (graph_of l.net) (at (graph_of l.net) i))
