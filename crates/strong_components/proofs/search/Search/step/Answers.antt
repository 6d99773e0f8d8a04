use Rattle.std.proofs.Common.{length, inl, inr, sym, ap, subst, arith}
use Rattle.std.proofs.lemmas.Option.{slice_get_within}
use Rattle.std.proofs.lemmas.Result.{on_ok_weaker}
use Rattle.strong_components.specs.declared.search.Search.{Search}
use Rattle.strong_components.specs.Search.{IsReady}
use Rattle.strong_components.proofs.States.{top_within, standing, edge_marked, led_by, merged_ready, entered_state, entered_seen, entered_less}
use Rattle.strong_components.proofs.Paths.{edge_from}
use Rattle.strong_components.proofs.search.Search.step.Goals as goal

pub index-node-requires : goal.index-node-requires
index-node-requires c =
    let s = c.args.self.now in let l = top_within c.args.nodes.now s c.args.top c.requires.state c.requires.last in omega (arith, s.stack.ok.0)

pub bounds-nodes-node : goal.bounds-nodes-node
bounds-nodes-node c =
    (standing c.args.nodes.now c.args.self.now c.args.top _ c.requires.state c.requires.last c.index-node.ensures).inside

pub unseen_successor-requires : goal.unseen_successor-requires
unseen_successor-requires c = λ w leads.
    let s = c.args.self.now in let nodes = c.args.nodes.now in
    let here = standing nodes s c.args.top _ c.requires.state c.requires.last c.index-node.ensures in
    let l = edge_marked nodes s _ w _ c.requires.inside c.requires.state here.inside leads in omega (arith, s.marks.ok.0)

pub enter-requires-clause-inside : goal.enter-requires-clause-inside
enter-requires-clause-inside c =
    let s = c.args.self.now in let l = slice_get_within s.marks.items _ _ c.in-Some.ensures.found.1 in omega (arith, s.marks.ok.0)

pub returns-in-Some-clause-state : goal.returns-in-Some-clause-state
returns-in-Some-clause-state c =
    let s = c.args.self.now in let nodes = c.args.nodes.now in let found = c.in-Some.ensures.found in
    let here = standing nodes s c.args.top _ c.requires.state c.requires.last c.index-node.ensures in
    on_ok_weaker c.enter.result
    (entered_state nodes s c.enter.new.self c.in-Some.next c.requires.state found.1
    (led_by nodes s.marks.items s.stack.items s.bounds.items s.path.items s.count c.args.top _ c.in-Some.next c.requires.state c.requires.last here.at
    (edge_from nodes _ c.in-Some.next _ here.inside found.0)))
    c.enter.ensures

pub returns-in-Some-clause-seen : goal.returns-in-Some-clause-seen
returns-in-Some-clause-seen c =
    let s = c.args.self.now in
    on_ok_weaker c.enter.result (entered_seen s c.enter.new.self c.in-Some.next (slice_get_within s.marks.items _ _ c.in-Some.ensures.found.1)) c.enter.ensures

pub returns-in-Some-clause-less : goal.returns-in-Some-clause-less
returns-in-Some-clause-less c =
    on_ok_weaker c.enter.result (entered_less c.args.self.now c.enter.new.self c.in-Some.next c.in-Some.ensures.found.1) c.enter.ensures

pub merge-requires-clause-inside : goal.merge-requires-clause-inside
merge-requires-clause-inside c = λ w is.
    let s = c.args.self.now in let nodes = c.args.nodes.now in
    let here = standing nodes s c.args.top _ c.requires.state c.requires.last c.index-node.ensures in
    let l = edge_marked nodes s _ w _ c.requires.inside c.requires.state here.inside (inl is) in omega (arith, s.marks.ok.0)

pub merge-requires-2-clause-inside : goal.merge-requires-2-clause-inside
merge-requires-2-clause-inside c = λ w is.
    let s = c.args.self.now in let nodes = c.args.nodes.now in
    let here = standing nodes s c.args.top _ c.requires.state c.requires.last c.index-node.ensures in
    let l = edge_marked nodes s _ w _ c.requires.inside c.requires.state here.inside (inr is) in
    let same = ap (λ (x : Search). length x.marks.items) c.merge.ensures.others in
    omega (arith, c.merge.new.self.marks.ok.0)

pub leave-requires-clause-within : goal.leave-requires-clause-within
leave-requires-clause-within c =
    let s = c.args.self.now in
    let l = top_within c.args.nodes.now s c.args.top c.requires.state c.requires.last in
    let one = ap (λ (x : Search). length x.stack.items) c.merge.ensures.others in
    let two = ap (λ (x : Search). length x.stack.items) c.merge-2.ensures.others in
    omega (arith, c.merge-2.new.self.stack.ok.0)

pub returns-clause-state : goal.returns-clause-state
returns-clause-state c =
    let s = c.args.self.now in let nodes = c.args.nodes.now in let n = c.merge-2.new.self in
    let here = standing nodes s c.args.top _ c.requires.state c.requires.last c.index-node.ensures in
    let merged = merged_ready nodes s c.merge.new.self n c.args.top _ _ c.requires.state c.requires.last here.at here.inside
    c.in_default.ensures.none c.merge.ensures.others c.merge.ensures.bounds c.merge-2.ensures.others c.merge-2.ensures.bounds in
    c.leave.ensures.state nodes _ c.requires.inside (subst (λ x. IsReady nodes x c.args.top c.index-node.result.now) (sym merged.0) merged.1)
