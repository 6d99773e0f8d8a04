use Rattle.rewriter.proofs.Segments.{taken_bytes}
use Rattle.rewriter.proofs.rewriting.have_bytes.Goals as goal

pub returns : goal.returns
returns c = taken_bytes c.args.segments.now c.loop-i.i c.loop-i-test.false c.loop-i.invariant
