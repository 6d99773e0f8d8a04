use Rattle.std.proofs.Common.{◌≡◌, ◌<◌, ℕ, [], length}
use Rattle.loop_shapes.specs.Around.{AreAroundSoFar}
use Rattle.loop_shapes.specs.Net.{graph_of}
use Rattle.loop_shapes.proofs.closed.closed_rows.Given as goal
use Rattle.loop_shapes.specs.Lines.{IsRowOf}
use Rattle.loop_data.specs.Bodies.{IsClosed}
use Rattle.loop_data.specs.Flows.{row_at, rows}

abbrev pub invariant-loop-header : goal.invariant-loop-header
invariant-loop-header l = ((length (rows l.all.items) ≡ l.header) × ((j : ℕ) → j < l.header → IsRowOf (graph_of l.net) (IsClosed (graph_of l.net)) j (row_at (rows l.all.items) j))) × AreAroundSoFar (graph_of l.net) l.header [] l.around
