use Rattle.induction.proofs.FirstReads.{AreReadsTo}
use Rattle.induction.proofs.reads.first_reads.Given as goal

abbrev pub invariant-loop-p : goal.invariant-loop-p
invariant-loop-p l = AreReadsTo l.flow l.masks l.first l.p
