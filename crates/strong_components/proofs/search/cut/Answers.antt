use Rattle.std.proofs.Common.{arith}
use Rattle.strong_components.proofs.Lists.{cut_more}
use Rattle.strong_components.specs.Search.{IsLast}
use Rattle.strong_components.proofs.search.cut.Goals as goal

pub loop-last-preserved : goal.loop-last-preserved
loop-last-preserved c =
    let is_last : IsLast c.loop-last.bounds.items c.in-Some.last = cc in
    cut_more c.args.bounds.now.items c.loop-last.bounds.items _ c.in-Some.last c.args.limit _ c.loop-last.invariant is_last (omega (arith, c.loop-last.bounds.ok.0)) c.pop.ensures.rest c.if-last-limit.false
