use Rattle.loop_tests.proofs.tests.verdict_rows.judged_in.Goals as goal

pub loops-requires-clause-from_starts : goal.loops-requires-clause-from_starts
loops-requires-clause-from_starts c = c.starts.ensures c.in-Ok.elf c.in-Ok-recover.graph c.in-Ok-recover.ensures.graph
