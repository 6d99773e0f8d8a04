use Rattle.loop_choice.proofs.Outcomes.{by_cells}
use Rattle.loop_choice.proofs.nest.outcome_of.Goals as goal

pub with_cells-requires-clause-numbered : goal.with_cells-requires-clause-numbered
with_cells-requires-clause-numbered c =
    c.cells_are_found.ensures.numbered c.args.graph.now c.args.shape.now.levels c.in_ok-cells.cells c.requires.nest
    c.in_ok-cells.ensures c.in-None.is

pub returns-in-Some : goal.returns-in-Some
returns-in-Some c =
    by_cells c.args.graph.now c.args.shape.now.levels c.in_ok-cells.cells c.in-Some.verdict
    c.cells_are_limited.ensures.fault c.requires.nest c.in_ok-cells.ensures c.in-Some.is
