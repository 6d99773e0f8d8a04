use Rattle.check_tests.proofs.tests.told_in.Goals as goal

pub loops-requires-clause-from_starts : goal.loops-requires-clause-from_starts
loops-requires-clause-from_starts c = c.starts.ensures c.args.elf.now c.in-Ok.graph c.in-Ok.ensures.graph
