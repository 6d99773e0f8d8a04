use Rattle.std.proofs.Common.{[], take}
use Rattle.loop_shapes.specs.Gains.{Gained}
use Rattle.loop_shapes.specs.Program.{program_graph}
use Rattle.loop_shapes.proofs.Gains.{Among}
use Rattle.loop_shapes.proofs.ListedRows.{Chosen}
use Rattle.loop_shapes.proofs.listed.listed_row.Given as goal

abbrev pub invariant-loop-from : goal.invariant-loop-from
invariant-loop-from l = Gained (Among (Chosen (program_graph l.program) l.numbers l.to) (take l.from-index l.from-items)) [] l.all.items
