use Rattle.loop_division.proofs.Sizes.{few_words}
use Rattle.loop_division.proofs.verdicts.judge_loops.Goals as goal

pub loops-requires-clause-few : goal.loops-requires-clause-few
loops-requires-clause-few c = few_words c.reached_words.ensures.code _ _ c.requires c.in-Ok.ensures.graph

pub loops-requires-clause-from_starts : goal.loops-requires-clause-from_starts
loops-requires-clause-from_starts c = c.starts.ensures c.args.elf.now c.in-Ok.graph c.in-Ok.ensures.graph
