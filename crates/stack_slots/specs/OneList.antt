-- A loop has one list of cells.
use Rattle.std.specs.Prelude.{◌≡◌, List}
use Rattle.loop_data.specs.declared.cells.Cells.{Cells}
use Rattle.loop_data.specs.declared.graph.Graph.{Graph}
use Rattle.loop_data.specs.declared.shape.Level.{Level}
use Rattle.loop_data.specs.LoopWords.{AreNest}
use Rattle.stack_slots.specs.Results.{AreCellsOf}

-- two answers for the cells of a loop are the same: why it is not taken, each cell, and each use with its number
abbrev pub OneListLaw : Type 0
OneListLaw = (G : Graph) (levels : List Level) (c d : Cells) → AreNest G levels → AreCellsOf G levels c
    → AreCellsOf G levels d → c ≡ d
