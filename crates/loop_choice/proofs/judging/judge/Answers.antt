use Rattle.loop_choice.proofs.Outcomes.{nest_of_loop}
use Rattle.loop_choice.proofs.judging.judge.Goals as goal

pub outcome_of-requires-clause-nest : goal.outcome_of-requires-clause-nest
outcome_of-requires-clause-nest c =
    nest_of_loop c.args.elf.now c.args.graph.now c.args.shape.now c.nests.ensures c.requires.graph c.requires.shape
    c.in-None.is
