use Rattle.std.proofs.Common.{◌≡◌, length}
use Rattle.guest_memory.proofs.tests.segment.Given as goal

abbrev pub invariant-loop-i : goal.invariant-loop-i
invariant-loop-i l = length l.bytes.items ≡ l.i
