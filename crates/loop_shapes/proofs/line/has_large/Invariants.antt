use Rattle.std.proofs.Common.{ℕ, ◌<◌, get_or}
use Rattle.loop_data.specs.Bodies.{InPart}
use Rattle.loop_shapes.specs.Net.{graph_of}
use Rattle.loop_shapes.specs.Places.{at}
use Rattle.loop_data.specs.Sets.{HasAtMost}
use Rattle.loop_shapes.proofs.line.has_large.Given as goal

abbrev pub invariant-loop-source : goal.invariant-loop-source
invariant-loop-source l = (k : ℕ) → k < l.source-index → HasAtMost 256 (InPart (graph_of l.net) (at (graph_of l.net) l.header) (at (graph_of l.net) (get_or l.row k 0)))
