use Rattle.loop_division.proofs.Planned.{has_plan}
use Rattle.loop_division.proofs.stubs.plan_of.Goals as goal

pub unwrap-requires : goal.unwrap-requires
unwrap-requires c = has_plan c.one_verdict.ensures c.args.elf.now c.args.graph.now c.args.shape.now c.in_ok-judged.judged
    c.requires.graph c.requires.shape c.in_ok-judged.ensures
