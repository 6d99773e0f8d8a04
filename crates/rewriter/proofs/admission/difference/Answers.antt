use Rattle.std.proofs.Common.{length, sym, arith}
use Rattle.rewriter.proofs.Differences.{first_at, first_none, first_end, SameBefore}
use Rattle.rewriter.proofs.admission.difference.Goals as goal

pub returns-then-made-i : goal.returns-then-made-i
returns-then-made-i c = sym (first_at c.loop-i.i c.args.made.now c.args.given.now c.loop-i.invariant (omega arith) (omega arith) c.if-made-i.true)

pub returns-then-made-given : goal.returns-then-made-given
returns-then-made-given c =
    let same : SameBefore (length c.args.made.now) c.args.made.now c.args.given.now = λ k l. c.loop-i.invariant k (omega arith) in
    sym (first_none c.args.made.now c.args.given.now same c.if-made-given.true)

pub returns-else-made-given : goal.returns-else-made-given
returns-else-made-given c =
    let same : SameBefore c.min-shorter.result c.args.made.now c.args.given.now = λ k l. c.loop-i.invariant k (omega arith) in
    sym (first_end c.min-shorter.result c.args.made.now c.args.given.now c.min-shorter.ensures same c.if-made-given.false)
