use Rattle.std.proofs.Common.{◌≡◌, ◌∷◌, map, take}
use Rattle.std.specs.List.{All}
use Rattle.loop_data.specs.declared.shape.Level.{Level}
use Rattle.loop_data.specs.Loops.{IsLevel}
use Rattle.loop_shapes.specs.Program.{program_graph}
use Rattle.loop_shapes.proofs.levels.levels_of.Given as goal

abbrev pub invariant-loop-x : goal.invariant-loop-x
invariant-loop-x l = (map (λ (v : Level). v.header) l.all.items ≡ l.header ∷ take l.x-index l.x-items) × All (IsLevel (program_graph l.program) l.header) l.all.items
