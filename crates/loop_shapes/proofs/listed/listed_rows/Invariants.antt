use Rattle.std.proofs.Common.{◌≡◌, ◌<◌, ℕ, length}
use Rattle.loop_data.specs.Listed.{IsListed}
use Rattle.loop_shapes.specs.Lines.{IsRowOf}
use Rattle.loop_shapes.specs.Program.{program_graph}
use Rattle.loop_shapes.proofs.listed.listed_rows.Given as goal
use Rattle.loop_data.specs.Flows.{row_at, rows}

abbrev pub invariant-loop-to : goal.invariant-loop-to
invariant-loop-to l = (length (rows l.all.items) ≡ l.to) × ((g : ℕ) → g < l.to → IsRowOf (program_graph l.program) (IsListed (program_graph l.program)) g (row_at (rows l.all.items) g))
