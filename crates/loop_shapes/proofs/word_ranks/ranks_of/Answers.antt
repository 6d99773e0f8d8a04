use Rattle.std.proofs.Common.{ℕ, List, subst, arith}
use Rattle.std.specs.List.{Contains}
use Rattle.loop_shapes.specs.Net.{graph_of}
use Rattle.loop_shapes.proofs.Numbering.{inside}
use Rattle.loop_shapes.proofs.word_ranks.ranks_of.Goals as goal

pub left_in_order-requires-clause-steps : goal.left_in_order-requires-clause-steps
left_in_order-requires-clause-steps c = inside (graph_of c.args.net.now) c.requires.net.ordered c.args.steps.now c.requires.steps

pub give_ranks-requires-clause-within : goal.give_ranks-requires-clause-within
give_ranks-requires-clause-within c i m =
    let l = c.in_ok-left.ensures i (subst (λ (xs : List ℕ). Contains xs i) c.as_slice-2.ensures.value m) in
    let n = c.requires.steps.count in
    omega arith
