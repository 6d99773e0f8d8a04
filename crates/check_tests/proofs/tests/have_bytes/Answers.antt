use Rattle.check_tests.proofs.Held.{taken_bytes}
use Rattle.check_tests.proofs.tests.have_bytes.Goals as goal

pub returns : goal.returns
returns c = taken_bytes c.args.segments.now c.loop-i.i c.loop-i-test.false c.loop-i.invariant
