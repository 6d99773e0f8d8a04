use Rattle.divided_loops.proofs.Judging.{short_law, copy_law, move_law}
use Rattle.divided_loops.proofs.judged_values_are_short.Goals as goal

pub returns-clause-values : goal.returns-clause-values
returns-clause-values c = short_law

pub returns-clause-copies : goal.returns-clause-copies
returns-clause-copies c = copy_law c.cells_are_found.ensures.numbered c.cells_are_found.ensures.found c.nests_are_bodies.ensures

pub returns-clause-moves : goal.returns-clause-moves
returns-clause-moves c = move_law c.cells_are_found.ensures.numbered
