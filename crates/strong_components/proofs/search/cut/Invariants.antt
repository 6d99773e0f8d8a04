use Rattle.std.proofs.Common.{vec_len}
use Rattle.strong_components.proofs.Lists.{IsCutAbove}
use Rattle.strong_components.proofs.search.cut.Given as goal

abbrev pub invariant-loop-last : goal.invariant-loop-last
invariant-loop-last l = IsCutAbove l.fn.bounds.items l.bounds.items l.limit

abbrev pub decreases-loop-last : goal.decreases-loop-last
decreases-loop-last l = vec_len l.bounds
