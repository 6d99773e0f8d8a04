use Rattle.std.proofs.Common.{◌≤◌, get_or, subst, refl, arith}
use Rattle.std.proofs.lemmas.Result.{IfOk-weaker}
use Rattle.strong_components.proofs.Results.{state_fresh, all_numbered, number_below, numbers_used, edge_order, same_component}
use Rattle.strong_components.proofs.components.Goals as goal

pub loop-root-init : goal.loop-root-init
loop-root-init c =
    let is = c.in_ok-search.ensures in
    record {
      state = rw (is.marks, is.stack, is.bounds, is.path, is.count) (state_fresh c.args.nodes.now _ refl);
      idle = is.path;
      seen = λ v h. absurd (omega arith);
    }

pub returns-clause-below : goal.returns-clause-below
returns-clause-below c =
    let s = c.loop-root.search in
    let nodes = c.args.nodes.now in
    let kept = c.loop-root.invariant in
    let all = all_numbered nodes s kept.state kept.idle (λ v h. kept.seen v (omega arith)) in
    IfOk-weaker c.numbers.result _ _
    (λ numbers is a in_a. rw is (number_below nodes s kept.state a (all a in_a)))
    c.numbers.ensures

pub returns-clause-from_zero : goal.returns-clause-from_zero
returns-clause-from_zero c =
    let s = c.loop-root.search in let nodes = c.args.nodes.now in let kept = c.loop-root.invariant in
    let all = all_numbered nodes s kept.state kept.idle (λ v h. kept.seen v (omega arith)) in
    IfOk-weaker c.numbers.result _ _
    (λ numbers is a k in_a low. rw is (numbers_used nodes s kept.state a (all a in_a) k (subst (λ l. k ≤ get_or l a 0) is low)))
    c.numbers.ensures

pub returns-clause-same : goal.returns-clause-same
returns-clause-same c =
    let s = c.loop-root.search in let nodes = c.args.nodes.now in let kept = c.loop-root.invariant in
    let all = all_numbered nodes s kept.state kept.idle (λ v h. kept.seen v (omega arith)) in
    IfOk-weaker c.numbers.result _ _
    (λ numbers is a b in_a in_b. rw is (same_component nodes s kept.state all a b in_a in_b))
    c.numbers.ensures

pub returns-clause-order : goal.returns-clause-order
returns-clause-order c =
    let s = c.loop-root.search in let nodes = c.args.nodes.now in let kept = c.loop-root.invariant in
    let all = all_numbered nodes s kept.state kept.idle (λ v h. kept.seen v (omega arith)) in
    IfOk-weaker c.numbers.result _ _
    (λ numbers is a b edge. rw is (edge_order nodes s kept.state all a b edge))
    c.numbers.ensures
