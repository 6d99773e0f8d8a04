use Rattle.std.proofs.Common.{◌≡◌, ℕ, List, [], ◌∷◌, true, length, inl, inr, subst}
use Rattle.loop_shapes.specs.Gains.{HasAll}
use Rattle.loop_shapes.specs.Edges.{IsEdgeBetween}
use Rattle.loop_shapes.specs.Entry.{IsLeastEdge, IsStartAmong}
use Rattle.loop_shapes.specs.Net.{graph_of}
use Rattle.loop_shapes.specs.Difference.{InDifference}
use Rattle.loop_data.specs.Sets.{IsListOf, IsLeast}
use Rattle.loop_shapes.proofs.Entries.{entrance, start_entry, some_entry, word_on_cycle}
use Rattle.loop_shapes.proofs.entry.entry_of.Goals as goal

pub returns-in-Some : goal.returns-in-Some
returns-in-Some c =
    let G = graph_of c.args.net.now in
    let g = c.args.header in
    let words = c.args.words.now in
    let core = c.in_ok-core.core.items in
    let others = c.in_ok-others.others.items in
    let inner = c.in_ok-inner.inner.items in
    let entering = c.in_ok-entering.entering.items in
    let ot = subst (λ (xs : List ℕ). IsListOf (InDifference words xs) others) c.as_slice.ensures.value c.in_ok-others.ensures in
    let inn = subst (λ (xs : List ℕ). IsListOf (InDifference xs (g ∷ [])) inner) c.as_slice-2.ensures.value c.in_ok-inner.ensures in
    let en = subst (λ (ys : List ℕ). HasAll (IsEdgeBetween G others ys true) entering) c.as_slice-4.ensures.value (subst (λ (xs : List ℕ). HasAll (IsEdgeBetween G xs c.as_slice-4.result.now true) entering) c.as_slice-3.ensures.value c.in_ok-entering.ensures) in
    (c.requires.small, inl (entrance G g c.args.source words core others inner entering c.requires.edge c.requires.words c.in_ok-core.ensures ot inn en c.in-Some.e (subst (λ (xs : List (ℕ × ℕ)). IsLeastEdge xs c.in-Some.e) c.as_slice-5.ensures.value c.in-Some.ensures)))

pub unreachable-requires : goal.unreachable-requires
unreachable-requires c =
    let G = graph_of c.args.net.now in
    let g = c.args.header in
    let words = c.args.words.now in
    let core = c.in_ok-core.core.items in
    let others = c.in_ok-others.others.items in
    let inner = c.in_ok-inner.inner.items in
    let entering = c.in_ok-entering.entering.items in
    let ot = subst (λ (xs : List ℕ). IsListOf (InDifference words xs) others) c.as_slice.ensures.value c.in_ok-others.ensures in
    let inn = subst (λ (xs : List ℕ). IsListOf (InDifference xs (g ∷ [])) inner) c.as_slice-2.ensures.value c.in_ok-inner.ensures in
    let en = subst (λ (ys : List ℕ). HasAll (IsEdgeBetween G others ys true) entering) c.as_slice-4.ensures.value (subst (λ (xs : List ℕ). HasAll (IsEdgeBetween G xs c.as_slice-4.result.now true) entering) c.as_slice-3.ensures.value c.in_ok-entering.ensures) in
    let none = subst (λ (xs : List (ℕ × ℕ)). length xs ≡ 0) c.as_slice-5.ensures.value c.in_default.ensures in
    some_entry G g c.args.source words core others inner entering c.requires.edge c.requires.words c.in_ok-core.ensures ot inn en none (subst (λ (xs : List ℕ). (x : ℕ) → ¬ IsStartAmong G xs x) c.as_slice-6.ensures.value c.in_default-first_start.ensures) (word_on_cycle G g c.args.source c.requires.edge c.requires.returns) c.requires.small c.requires.returns c.requires.no_loop

pub returns : goal.returns
returns c =
    let G = graph_of c.args.net.now in
    let g = c.args.header in
    let words = c.args.words.now in
    let core = c.in_ok-core.core.items in
    let others = c.in_ok-others.others.items in
    let inner = c.in_ok-inner.inner.items in
    let entering = c.in_ok-entering.entering.items in
    let ot = subst (λ (xs : List ℕ). IsListOf (InDifference words xs) others) c.as_slice.ensures.value c.in_ok-others.ensures in
    let inn = subst (λ (xs : List ℕ). IsListOf (InDifference xs (g ∷ [])) inner) c.as_slice-2.ensures.value c.in_ok-inner.ensures in
    let en = subst (λ (ys : List ℕ). HasAll (IsEdgeBetween G others ys true) entering) c.as_slice-4.ensures.value (subst (λ (xs : List ℕ). HasAll (IsEdgeBetween G xs c.as_slice-4.result.now true) entering) c.as_slice-3.ensures.value c.in_ok-entering.ensures) in
    let none = subst (λ (xs : List (ℕ × ℕ)). length xs ≡ 0) c.as_slice-5.ensures.value c.in_default.ensures in
    let s = c.in-Some-first_start.start in
    (c.requires.small, inr (start_entry G g c.args.source words core others inner entering c.requires.edge c.requires.words c.in_ok-core.ensures ot inn en none s (subst (λ (xs : List ℕ). IsLeast (IsStartAmong G xs) s) c.as_slice-6.ensures.value c.in-Some-first_start.ensures)))
