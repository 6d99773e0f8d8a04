-- The words of a body with the facts of a pass over it.
use Rattle.std.proofs.Common.{◌≡◌, ℕ, zero, suc, ◌<◌, List, [], ◌∷◌, length, get_or, map, Option, Result, Ok, Err, inl, refl, ap, sym, ◌∙◌, subst, arith, if◌then◌else◌}
use mathlib.Core.Path.{fun_ext}
use Rattle.std.specs.Result.{IfOk}
use Rattle.std.specs.List.{Contains}
use Rattle.std.specs.List.Sorted.{IsStrictlyIncreasing}
use Rattle.std.proofs.lemmas.List.{get_or-map, length-map}
use Rattle.std.proofs.lemmas.List.Elements.{Contains-get_or}
use Rattle.std.proofs.lemmas.List.Kept.{AllPairs-from_increasing}
use Rattle.loop_data.specs.declared.cells.Cells.{Cells}
use Rattle.loop_data.specs.declared.graph.Graph.{Graph}
use Rattle.loop_data.specs.declared.shape.Level.{Level}
use Rattle.loop_data.specs.declared.values.Values.{Values}
use Rattle.loop_data.specs.Facts.{Fact}
use Rattle.loop_data.specs.FactPass.{AreFacts}
use Rattle.loop_data.specs.Locations.{CellMap, no_cells}
use Rattle.loop_data.specs.LoopCode.{LoopCode, code_of}
use Rattle.loop_data.specs.LoopWords.{AreNest}
use Rattle.loop_data.specs.Lookups.{cell_map, fact_in, fact_at}
use Rattle.loop_data.specs.Nests.{Nest, Holds, nest_of}
use Rattle.loop_data.specs.Results.{IsNestOf, AreFactsOf}
use Rattle.loop_data.proofs.FactUnique.{one_pass}
use Rattle.loop_data.proofs.Steps.{contains_has}
use Rattle.loop_data.proofs.Tests.{is_eq, is_ne}
use Rattle.stack_slots.specs.declared.words.BodyWord.{BodyWord}
use Rattle.stack_slots.specs.Results.{HasCells, AreCellsOf}
use Rattle.stack_slots.specs.Touches.{word_at, words_of}

abbrev ats : List Values → List ℕ
ats points = map (λ (p : Values). p.at) points

-- the words of points
abbrev pub words_by : LoopCode → List ℕ → List Values → List BodyWord
words_by B body points = map (λ (p : Values). word_at B body (fact_in p.of) p.at) points

-- the facts that are looked up at the address of a point are its own, where the addresses rise
own_facts : (points : List Values) → IsStrictlyIncreasing (ats points) → (k : ℕ) (d : Values) → k < length points → fact_in (get_or points k d).of ≡ fact_at points (get_or points k d).at
own_facts points up k d l = fun_ext (λ r. sym (go points k r rises l))
  where
    rises : (i j : ℕ) → i < j → j < length points → (get_or points i d).at < (get_or points j d).at
    rises i j lt m =
        let n = length-map points (λ (p : Values). p.at) in
        let a = AllPairs-from_increasing (ats points) up i j 0 lt (omega arith) in
        let b = get_or-map (λ (p : Values). p.at) points i d 0 (omega arith) in
        let c = get_or-map (λ (p : Values). p.at) points j d 0 m in
        omega arith

    go : (ps : List Values) (i r : ℕ) → ((i j : ℕ) → i < j → j < length ps → (get_or ps i d).at < (get_or ps j d).at) → i < length ps → fact_at ps (get_or ps i d).at r ≡ fact_in (get_or ps i d).of r
    go [] i r f m = absurd (omega arith)
    go (p ∷ ps) zero r f m = ap (λ b. if b then fact_in p.of r else fact_at ps p.at r) (is_eq p.at p.at refl)
    go (p ∷ ps) (suc i) r f m =
        let q = f 0 (suc i) (omega arith) m in
        ap (λ b. if b then fact_in p.of r else fact_at ps (get_or ps i d).at r) (is_ne p.at (get_or ps i d).at (λ e. omega arith))
        ∙ go ps i r (λ a b lt n. f (suc a) (suc b) (omega arith) (omega arith)) (omega arith)

-- points with these facts have the words of their addresses
words_by_facts : (B : LoopCode) (body : List ℕ) (V : ℕ → ℕ → Option Fact) (points : List Values) → ((k : ℕ) (d : Values) → k < length points → fact_in (get_or points k d).of ≡ V (get_or points k d).at)
    → words_by B body points ≡ map (λ (u : ℕ). word_at B body (V u) u) (ats points)
words_by_facts B body V [] f = refl
words_by_facts B body V (p ∷ ps) f =
    ap (λ F. word_at B body F p.at ∷ words_by B body ps) (f 0 p (omega arith))
    ∙ ap (λ ws. word_at B body (V p.at) p.at ∷ ws) (words_by_facts B body V ps (λ k d l. f (suc k) d (omega arith)))

module _ (G : Graph) (ls : List Level) (nest : AreNest G ls) where
  -- the first of the levels is the root
  pub first_is : (l : Level) → get_or ls 0 l ≡ nest.root
  first_is l = ap (λ (xs : List Level). get_or xs 0 l) nest.are

  -- there is one nest of the levels
  pub nest_is : (N : Nest) → IsNestOf G ls N → N ≡ nest_of G nest.root nest.inner
  nest_is N is =
      let q = sym is.are ∙ nest.are in
      let r : is.root ≡ nest.root = cc in
      let s : is.inner ≡ nest.inner = cc in
      is.is ∙ ap (λ x. nest_of G x is.inner) r ∙ ap (nest_of G nest.root) s

  pub this_nest : IsNestOf G ls (nest_of G nest.root nest.inner)
  this_nest = record { root = nest.root; inner = nest.inner; are = nest.are; is = refl }

  module _ (points : List Values) (facts : AreFactsOf G ls no_cells 0 points) where
    addresses : ats points ≡ nest.root.body
    addresses = facts.words nest.root (first_is nest.root)

    up : IsStrictlyIncreasing nest.root.body
    up = nest.ordered nest.root (inl refl)

    -- the words of the points are those of the body by any facts of its pass
    words_same : (V : ℕ → ℕ → Option Fact) → AreFacts (nest_of G nest.root nest.inner) (code_of G no_cells) nest.root V
        → words_by (code_of G no_cells) nest.root.body points ≡ words_of (code_of G no_cells) nest.root.body V
    words_same V right =
        words_by_facts (code_of G no_cells) nest.root.body V points here
        ∙ ap (map (λ (u : ℕ). word_at (code_of G no_cells) nest.root.body (V u) u)) addresses
      where
        N : Nest
        N = nest_of G nest.root nest.inner

        here : (k : ℕ) (d : Values) → k < length points → fact_in (get_or points k d).of ≡ V (get_or points k d).at
        here k d l =
            let n = length-map points (λ (p : Values). p.at) in
            let u = (get_or points k d).at in
            let m : k < length (ats points) = omega arith in
            let c = subst (λ xs. Contains xs (get_or (ats points) k 0)) addresses (Contains-get_or (ats points) k 0 m) in
            let q : get_or (ats points) k 0 ≡ u = get_or-map (λ (p : Values). p.at) points k d 0 l in
            let inside : Holds nest.root u = contains_has nest.root.body u (subst (Contains nest.root.body) q c) in
            own_facts points (subst (λ xs. IsStrictlyIncreasing xs) (sym addresses) up) k d l
            ∙ fun_ext (λ r. one_pass (nest_of G nest.root nest.inner) (code_of G no_cells) nest.root nest.nest (inl refl) (fact_at points) V (facts.facts (nest_of G nest.root nest.inner) nest.root this_nest (first_is nest.root)) right u inside r)

    pub cells_are : (c : Cells) → HasCells (words_by (code_of G no_cells) nest.root.body points) c → AreCellsOf G ls c
    cells_are c has N V is right =
        let e = nest_is N is in
        let own = subst (λ (M : Nest). AreFacts M (code_of G no_cells) M.root V) e right in
        subst (λ (M : Nest). HasCells (words_of (code_of G no_cells) M.root.body V) c) (sym e)
        (subst (λ ws. HasCells ws c) (words_same V own) has)

if_ok : {A E : Type 0} (r : Result A E) (P Q : A → Type 0) → ((a : A) → P a → Q a) → IfOk r P → IfOk r Q
if_ok (Ok a) P Q f p = f a p
if_ok (Err e) P Q f p = p

-- the cells of the words that were made are those of the loop
pub cells_in_end : {E : Type 0} (G : Graph) (ls ms : List Level) (nest : AreNest G ls) → ls ≡ ms → (none : Cells) → cell_map none ≡ no_cells → (points : List Values) (body : List ℕ) (words : List BodyWord) (r : Result Cells E) → body ≡ nest.root.body
    → AreFactsOf G ms (cell_map none) 0 points → words ≡ words_by (code_of G no_cells) body points → IfOk r (HasCells words) → IfOk r (AreCellsOf G ms)
cells_in_end {E} G ls ms nest same none empty points body words r is_body facts is_words ok =
    let bare = subst (λ (C : CellMap). AreFactsOf G ms C 0 points) empty facts in
    let own = subst (λ (xs : List Level). AreFactsOf G xs no_cells 0 points) (sym same) bare in
    let made = is_words ∙ ap (λ us. words_by (code_of G no_cells) us points) is_body in
    subst (λ (xs : List Level). IfOk r (AreCellsOf G xs)) same
    (if_ok r (HasCells words) (AreCellsOf G ls) (λ (c : Cells) has. cells_are G ls nest points own c (subst (λ ws. HasCells ws c) made has)) ok)

-- the words of a body stand in its order
pub addresses_by : (B : LoopCode) (body : List ℕ) (points : List Values) → map (λ (w : BodyWord). w.at) (words_by B body points) ≡ ats points
addresses_by B body [] = refl
addresses_by B body (p ∷ ps) = ap (λ xs. p.at ∷ xs) (addresses_by B body ps)

pub words_in_order : (G : Graph) (ls ms : List Level) (nest : AreNest G ls) → ls ≡ ms → (C : CellMap) (points : List Values) → AreFactsOf G ms C 0 points → (B : LoopCode) (body : List ℕ) (words : List BodyWord) → words ≡ words_by B body points
    → IsStrictlyIncreasing (map (λ (w : BodyWord). w.at) words)
words_in_order G ls ms nest same C points facts B body words made =
    let own = facts.words nest.root (ap (λ (xs : List Level). get_or xs 0 nest.root) (sym same) ∙ first_is G ls nest nest.root) in
    let all = ap (map (λ (w : BodyWord). w.at)) made ∙ addresses_by B body points ∙ own in
    subst (λ xs. IsStrictlyIncreasing xs) (sym all) (nest.ordered nest.root (inl refl))
