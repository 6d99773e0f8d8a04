use Rattle.std.proofs.Common.{arith}
use Rattle.loop_samples.proofs.Adding.{turns_are, reads_are, are_reads, writes_are, are_writes, at_loop, stays}
use Rattle.loop_samples.proofs.laws.add_loop_turns.Goals as goal

pub returns-clause-at : goal.returns-clause-at
returns-clause-at c = at_loop

pub returns-clause-turns : goal.returns-clause-turns
returns-clause-turns c = turns_are

pub returns-clause-reads : goal.returns-clause-reads
returns-clause-reads c = λ t b h. (reads_are t b h, are_reads t b (omega arith))

pub returns-clause-writes : goal.returns-clause-writes
returns-clause-writes c = λ t b h. (writes_are t b h, are_writes t b (omega arith))

pub returns-clause-stays : goal.returns-clause-stays
returns-clause-stays c = stays
