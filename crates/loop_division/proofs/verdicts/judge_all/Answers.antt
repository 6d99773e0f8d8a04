use Rattle.loop_division.proofs.AllVerdicts.{judged_end}
use Rattle.loop_division.proofs.verdicts.judge_all.Goals as goal

pub judged_as-requires-clause-shape : goal.judged_as-requires-clause-shape
judged_as-requires-clause-shape c =
    let s = rw (← c.shape-item.is) at
    (c.requires.shapes.each c.loop-shape.shape-index c.shape-item.result c.loop-shape-test.true) in s

pub returns : goal.returns
returns c = judged_end c.args.graph.now c.args.shapes.now c.loop-shape.shape-index c.loop-shape.all.items
    c.loop-shape.invariant c.loop-shape-test.false
