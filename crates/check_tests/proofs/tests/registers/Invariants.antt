use Rattle.rv64_decode.specs.Range.{AreWords}
use Rattle.check_tests.proofs.tests.registers.Given as goal

abbrev pub invariant-loop-number : goal.invariant-loop-number
invariant-loop-number l = AreWords l.regs
