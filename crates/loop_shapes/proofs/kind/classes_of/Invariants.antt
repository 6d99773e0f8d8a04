use Rattle.std.proofs.Common.{◌≡◌, ℕ, ◌<◌, length, get_or}
use Rattle.loop_shapes.specs.declared.kind.Class.TheVariants.{Nothing}
use Rattle.loop_shapes.specs.Class.{IsWordOfClass}
use Rattle.loop_shapes.specs.Net.{graph_of}
use Rattle.loop_shapes.specs.Places.{at}
use Rattle.loop_shapes.proofs.kind.classes_of.Given as goal

abbrev pub invariant-loop-place : goal.invariant-loop-place
invariant-loop-place l = (length l.all.items ≡ l.place) × ((i : ℕ) → i < l.place → IsWordOfClass (graph_of l.net) (at (graph_of l.net) i) (get_or l.all.items i Nothing))
