-- The fact after the word at a place, from the values before it.
use Rattle.std.proofs.Common.{◌≡◌, ℕ, zero, suc, ◌<◌, ◌==◌, ◌&&◌, Bool, true, false, if◌then◌else◌, List, [], ◌∷◌, length, get_or, map, Option, Some, None, ℤ, refl, ap, sym, ◌∙◌, subst, arith}
use mathlib.Core.Path.{fun_ext}
use Rattle.std.proofs.lemmas.List.{get_or-map, length-map}
use Rattle.rv64_decode.specs.declared.instr.Instr.{Instr}
use Rattle.linear_forms.specs.Forms.{is_small}
use Rattle.loop_data.specs.declared.graph.Graph.{Graph}
use Rattle.loop_data.specs.declared.shape.Level.{Level}
use Rattle.loop_data.specs.declared.values.Values.{Values}
use Rattle.loop_data.specs.Nests.{Nest}
use Rattle.loop_data.specs.Locations.{CellMap}
use Rattle.loop_data.specs.LoopCode.{instr_among, code_of}
use Rattle.loop_data.specs.Facts.{Fact, Number, Offset, fact_past, fact_after}
use Rattle.loop_data.specs.Lookups.{fact_at, fact_in}
use Rattle.loop_data.specs.ValueStates.{nothing_known, values_at, past}
use Rattle.loop_data.proofs.Tests.{is_eq, is_ne, eq_of, and_true, true_and}
use Rattle.loop_data.proofs.FactUnique.{one_pass}
use Rattle.induction.specs.declared.words.Words.{Words}
use Rattle.induction.specs.Words.{IsLoopOf, step_in}
use Rattle.induction.proofs.PlaceMarks.{has_at, AreApart, apart_of, body_rises, is_nest, instr_at_place, use_at_place}

abbrev addresses : List Values → List ℕ
addresses points = map (λ (v : Values). v.at) points

fact_at_place : (points : List Values) (p r : ℕ) → AreApart (addresses points) → p < length points → fact_at points (values_at points p).at r ≡ fact_in (values_at points p).of r
fact_at_place [] p r d l = absurd (omega arith)
fact_at_place (x ∷ xs) zero r d l = ap (λ t. if t then fact_in x.of r else fact_at xs x.at r) (is_eq x.at x.at refl)
fact_at_place (x ∷ xs) (suc p) r d l =
    let n = length-map xs (λ (v : Values). v.at) in
    let e : get_or (addresses xs) p 0 ≡ (values_at xs p).at = get_or-map (λ (v : Values). v.at) xs p nothing_known 0 (omega arith) in
    ap (λ t. if t then fact_in x.of r else fact_at xs (values_at xs p).at r) (is_ne x.at (values_at xs p).at (λ q. d 0 (suc p) (omega arith) (omega arith) (q ∙ sym e)))
    ∙ fact_at_place xs p r (λ i j k m. d (suc i) (suc j) (omega arith) (omega arith)) (omega arith)

-- the fact after the word at a place is that of any family of facts of the loop
pub past_is : (G : Graph) (C : CellMap) (ls : List Level) (N : Nest) (l : Level) (V : ℕ → ℕ → Option Fact) (w : Words) → IsLoopOf G C ls N l V w → (p r : ℕ) → p < length l.body
    → past w.flow w.points.items p r ≡ fact_after (code_of G C) (get_or l.body p 0) (V (get_or l.body p 0)) r
past_is G C ls N l V w s p r lp =
    ap (λ (i : Option Instr). fact_past (values_at w.points.items p).at i (get_or w.flow.uses.items p None) (fact_in (values_at w.points.items p).of) r) (instr_at_place G C ls l.body w s.words.flow p lp)
    ∙ ap (λ (c : Option ℕ). fact_past (values_at w.points.items p).at (instr_among G.words (get_or l.body p 0)) c (fact_in (values_at w.points.items p).of) r) (use_at_place G C ls l.body w s.words.flow p lp)
    ∙ ap (λ (F : ℕ → Option Fact). fact_past (values_at w.points.items p).at (instr_among G.words (get_or l.body p 0)) (C.uses (get_or l.body p 0)) F r) (fun_ext facts)
    ∙ ap (λ (u : ℕ). fact_past u (instr_among G.words (get_or l.body p 0)) (C.uses (get_or l.body p 0)) (V (get_or l.body p 0)) r) at
  where
    within : p < length w.points.items
    within = let n = s.words.sized.points in omega arith

    at : (values_at w.points.items p).at ≡ get_or l.body p 0
    at = sym (get_or-map (λ (v : Values). v.at) w.points.items p nothing_known 0 within) ∙ ap (λ (xs : List ℕ). get_or xs p 0) s.words.addresses

    apart : AreApart (addresses w.points.items)
    apart = subst AreApart (sym s.words.addresses) (apart_of l.body (body_rises G ls N l s.nest s.of s.among))

    facts : (q : ℕ) → fact_in (values_at w.points.items p).of q ≡ V (get_or l.body p 0) q
    facts q =
        sym (fact_at_place w.points.items p q apart within)
        ∙ ap (λ (u : ℕ). fact_at w.points.items u q) at
        ∙ one_pass N (code_of G C) l (is_nest G ls N s.nest s.of) s.among (fact_at w.points.items) V (s.words.facts N s.of) s.facts (get_or l.body p 0) (has_at l.body p lp) q

-- what a step says of a fact
pub step_is : (x : Option Fact) (r : ℕ) (z : ℤ) → step_in x r ≡ Some z → (x ≡ Some (Offset r z)) × (is_small z ≡ true)
step_is None r z e = absurd (cc)
step_is (Some (Number y)) r z e = absurd (cc)
step_is (Some (Offset q y)) r z e = by ((q == r) && is_small y) refl e
  where
    by : (b : Bool) → ((q == r) && is_small y) ≡ b → (if b then Some y else None) ≡ Some z → (Some (Offset q y) ≡ Some (Offset r z)) × (is_small z ≡ true)
    by false t f = absurd (cc)
    by true t f =
        let a = and_true (q == r) (is_small y) t in
        let same : y ≡ z = cc in
        (ap (λ n. Some (Offset n y)) (eq_of q r a.0) ∙ ap (λ n. Some (Offset r n)) same, subst (λ n. is_small n ≡ true) same a.1)

pub is_step : (x : Option Fact) (r : ℕ) (z : ℤ) → x ≡ Some (Offset r z) → is_small z ≡ true → step_in x r ≡ Some z
is_step x r z e small = ap (λ (y : Option Fact). step_in y r) e ∙ ap (λ b. if b then Some z else None) (true_and (r == r) (is_small z) (is_eq r r refl) small)
