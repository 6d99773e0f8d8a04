use Rattle.std.proofs.Common.{◌≡◌, ◌⊎◌, ℕ, length, inl, inr, List, [], ◌∷◌, ◌++◌, ◌∙◌, true, false, Option, Some, refl, sym, subst, ap, arith}
use Rattle.std.proofs.lemmas.Bool.{false≢true}
use Rattle.std.specs.List.{Contains}
use Rattle.std.proofs.lemmas.List.Elements.{Contains-push, Contains-push_cases, Contains-append_left}
use Rattle.loop_shapes.specs.Around.{GivesWay, IsSettled, entry_at}
use Rattle.loop_shapes.specs.Net.{graph_of}
use Rattle.loop_shapes.proofs.Answered.{passed, failed}
use Rattle.loop_shapes.proofs.ClosedRows.{tried_open, tried_closed}
use Rattle.loop_shapes.proofs.Rounds.{rounds_more, rounds_wider, entries_within}
use Rattle.loop_shapes.proofs.RankedEdges.{none_closed}
use Rattle.loop_shapes.proofs.closed.add_closed.Goals as goal

pub returns-then-not-branch-clause-tried : goal.returns-then-not-branch-clause-tried
returns-then-not-branch-clause-tried c = tried_open (graph_of c.args.net.now) c.args.header c.args.source c.args.row.now.items (failed c.in_ok-is_closed.field-0 c.in_ok-is_closed.ensures.closed c.if-not-branch.true)

pub returns-then-leads_up-clause-tried : goal.returns-then-leads_up-clause-tried
returns-then-leads_up-clause-tried c =
    let up = c.if-leads_up.ensures refl in
    tried_open (graph_of c.args.net.now) c.args.header c.args.source c.args.row.now.items (λ closed. none_closed (graph_of c.args.net.now) c.requires.net.ordered c.args.ranks.now c.requires.ranks c.args.header c.args.source c.requires.header closed c.requires.source up.0 up.1)

pub returns-clause-tried : goal.returns-clause-tried
returns-clause-tried c = tried_closed (graph_of c.args.net.now) c.args.header c.args.source c.args.row.now.items c.push.new.self.items (passed c.in_ok-is_closed.field-0 c.in_ok-is_closed.ensures.closed c.if-not-branch.false) c.in_ok-push.ensures.items

pub settle-requires-clause-within : goal.settle-requires-clause-within
settle-requires-clause-within c i m e =
    let l = entries_within (graph_of c.args.net.now) true c.args.header c.args.row.now.items c.args.around.now.innermost.items c.requires.around.innermost i m e in
    let n = c.in_ok-is_closed.ensures.set.count in
    let k = ap length c.deref-2.ensures.value in
    omega arith

pub settle-requires-2-clause-within : goal.settle-requires-2-clause-within
settle-requires-2-clause-within c i m e =
    let l = entries_within (graph_of c.args.net.now) false c.args.header c.args.row.now.items c.args.around.now.outermost.items c.requires.around.outermost i m e in
    let n = c.in_ok-is_closed.ensures.set.count in
    let k = ap length c.deref-6.ensures.value in
    omega arith

grown : (old new : List ℕ) (u : ℕ) → new ≡ old ++ u ∷ [] → (v : ℕ) → Contains new v → Contains old v ⊎ (v ≡ u)
grown old new u e v m = by (Contains-push_cases old u v (subst (λ (xs : List ℕ). Contains xs v) e m))
  where
    by : Contains old v ⊎ (u ≡ v) → Contains old v ⊎ (v ≡ u)
    by (inl c) = inl c
    by (inr q) = inr (sym q)

kept_in : (old new : List ℕ) (u : ℕ) → new ≡ old ++ u ∷ [] → (v : ℕ) → Contains old v → Contains new v
kept_in old new u e v m = subst (λ (xs : List ℕ). Contains xs v) (sym e) (Contains-append_left old (u ∷ []) v m)

last_in : (old new : List ℕ) (u : ℕ) → new ≡ old ++ u ∷ [] → Contains new u
last_in old new u e = subst (λ (xs : List ℕ). Contains xs u) (sym e) (Contains-push old u)

pub returns-clause-around : goal.returns-clause-around
returns-clause-around c =
    let G = graph_of c.args.net.now in
    let n = c.requires.net in
    let h = c.args.header in
    let u = c.args.source in
    let row = c.args.row.now.items in
    let found = c.is_closed.new.set.found.items in
    let closed = passed c.in_ok-is_closed.field-0 c.in_ok-is_closed.ensures.closed c.if-not-branch.false in
    let part = c.in_ok-is_closed.ensures.part c.if-not-branch.false in
    let grew = grown row c.push.new.self.items u c.in_ok-push.ensures.items in
    record {
      innermost = rounds_more G n.from_starts n.ordered h u found row c.push.new.self.items c.args.around.now.innermost.items c.settle.new.entries.items c.requires.header closed part grew (kept_in row c.push.new.self.items u c.in_ok-push.ensures.items) (last_in row c.push.new.self.items u c.in_ok-push.ensures.items) true c.requires.around.innermost (subst (λ (xs : List ℕ). IsSettled true xs xs h c.args.around.now.innermost.items c.settle.new.entries.items) c.deref.ensures.value c.settle.ensures);
      outermost = rounds_more G n.from_starts n.ordered h u found row c.push.new.self.items c.args.around.now.outermost.items c.settle-2.new.entries.items c.requires.header closed part grew (kept_in row c.push.new.self.items u c.in_ok-push.ensures.items) (last_in row c.push.new.self.items u c.in_ok-push.ensures.items) false c.requires.around.outermost (subst (λ (xs : List ℕ). IsSettled false xs xs h c.args.around.now.outermost.items c.settle-2.new.entries.items) c.deref-5.ensures.value c.settle-2.ensures);
    }

pub returns-then-not-is_wider-clause-around : goal.returns-then-not-is_wider-clause-around
returns-then-not-is_wider-clause-around c =
    let G = graph_of c.args.net.now in
    let n = c.requires.net in
    let h = c.args.header in
    let u = c.args.source in
    let row = c.args.row.now.items in
    let found = c.is_closed.new.set.found.items in
    let closed = passed c.in_ok-is_closed.field-0 c.in_ok-is_closed.ensures.closed c.if-not-branch.false in
    let part = c.in_ok-is_closed.ensures.part c.if-not-branch.false in
    let grew = grown row c.push.new.self.items u c.in_ok-push.ensures.items in
    record {
      innermost = rounds_more G n.from_starts n.ordered h u found row c.push.new.self.items c.args.around.now.innermost.items c.settle.new.entries.items c.requires.header closed part grew (kept_in row c.push.new.self.items u c.in_ok-push.ensures.items) (last_in row c.push.new.self.items u c.in_ok-push.ensures.items) true c.requires.around.innermost (subst (λ (xs : List ℕ). IsSettled true xs xs h c.args.around.now.innermost.items c.settle.new.entries.items) c.deref.ensures.value c.settle.ensures);
      outermost = rounds_wider G n.from_starts n.ordered h u found row c.push.new.self.items c.args.around.now.outermost.items c.args.around.now.outermost.items c.requires.header closed part grew (kept_in row c.push.new.self.items u c.in_ok-push.ensures.items) (last_in row c.push.new.self.items u c.in_ok-push.ensures.items) c.requires.around.outermost (λ g. false≢true (sym c.if-not-is_wider.true ∙ c.is_wider.ensures.1 (subst (λ (xs : List ℕ). GivesWay false xs (entry_at c.as_slice.result.now h)) (sym c.deref-3.ensures.value) (subst (λ (es : List (Option ℕ)). GivesWay false found (entry_at es h)) (sym c.as_slice.ensures.value) g))));
    }

pub returns-then-not-is_wider-clause-tried : goal.returns-then-not-is_wider-clause-tried
returns-then-not-is_wider-clause-tried c = tried_closed (graph_of c.args.net.now) c.args.header c.args.source c.args.row.now.items c.push.new.self.items (passed c.in_ok-is_closed.field-0 c.in_ok-is_closed.ensures.closed c.if-not-branch.false) c.in_ok-push.ensures.items

pub is_wider-requires-clause-within : goal.is_wider-requires-clause-within
is_wider-requires-clause-within c i m e =
    let l = entries_within (graph_of c.args.net.now) false c.args.header c.args.row.now.items c.args.around.now.outermost.items c.requires.around.outermost i m (subst (λ (xs : List (Option ℕ)). entry_at xs i ≡ Some m) c.as_slice.ensures.value e) in
    let n = c.in_ok-is_closed.ensures.set.count in
    let k = ap length c.deref-4.ensures.value in
    omega arith
