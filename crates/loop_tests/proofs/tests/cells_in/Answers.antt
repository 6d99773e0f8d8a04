use Rattle.loop_tests.proofs.Listed.{no_fault}
use Rattle.loop_tests.proofs.tests.cells_in.Goals as goal

pub returns : goal.returns
returns c =
    c.cells_are_found.ensures.numbered c.args.found.now.graph c.args.found.now.shape.levels c.in_ok-cells.cells
    c.requires.nest c.in_ok-cells.ensures (no_fault c.in_ok-cells.cells.fault c.is_some.result c.is_some.ensures c.if-is_some.false)
