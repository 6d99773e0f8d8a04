-- All places of an order, one after the other.
use Rattle.std.proofs.Common.{◌≡◌, ◌≢◌, ℕ, zero, suc, ◌+◌, ◌<◌, ◌≤◌, inl, List, [], ◌∷◌, length, map, get_or, set, drop, Option, refl, ap, sym, ◌∙◌, subst, arith}
use Rattle.std.specs.List.{All}
use Rattle.std.proofs.lemmas.List.{get_or_default, get_or-map, length-map}
use Rattle.std.proofs.lemmas.List.Elements.{Contains-get_or}
use Rattle.linear_forms.specs.Forms.{LinearForm}
use Rattle.loop_data.specs.declared.classes.Classes.{Classes}
use Rattle.loop_data.specs.Points.{without_forms, Point, no_forms, point_at}
use Rattle.loop_data.specs.declared.flow.Flow.{Flow}
use Rattle.loop_data.specs.declared.graph.Graph.{Graph}
use Rattle.loop_data.specs.declared.shape.Level.{Level}
use Rattle.loop_data.specs.Nests.{Nest, nest_of, In}
use Rattle.loop_data.specs.LoopWords.{AreNest}
use Rattle.loop_data.specs.Locations.{CellMap}
use Rattle.loop_data.specs.LoopCode.{LoopCode, code_of, IsForwardIn}
use Rattle.loop_data.specs.Equations.{AreForms}
use Rattle.loop_data.specs.Flows.{rows, row_at, at, HasSources, IsOrder, IsFlow}
use Rattle.loop_data.specs.Lookups.{form_at, roles_by, AreFew}
use Rattle.loop_data.specs.Results.{IsNestOf}
use Rattle.loop_data.proofs.Steps.{contains_has}
use Rattle.loop_data.proofs.FlowEdges.{forward_sources, place_of_word}
use Rattle.loop_data.proofs.ValuePlaces.{some_source}
use Rattle.register_equations.specs.States.{IsFormPlace, AreFormsSet, AreSolvedPoints}
use Rattle.register_equations.proofs.Placed.{more_places}
use Rattle.register_equations.proofs.Solving.{solved}

-- the addresses stay
ats_kept : (points : List Point) (p : ℕ) (forms : List (Option LinearForm)) → map (λ (v : Point). v.at) (set points p (record { at = (point_at points p).at; forms = forms })) ≡ map (λ (v : Point). v.at) points
ats_kept [] p forms = refl
ats_kept (x ∷ xs) zero forms = refl
ats_kept (x ∷ xs) (suc p) forms = ap (λ ys. x.at ∷ ys) (ats_kept xs p forms)

pub set_ats : (B : LoopCode) (levels inner : List Level) (root : Level) (c : Classes) (flow : Flow) (p : ℕ) (old new : List Point) → AreFormsSet B levels inner root c flow p old new → map (λ (v : Point). v.at) new ≡ map (λ (v : Point). v.at) old
set_ats B levels inner root c flow p old new s = ap (λ (ps : List Point). map (λ (v : Point). v.at) ps) s.is ∙ ats_kept old p s.state

pub counted : (ps : List Point) (body : List ℕ) → map (λ (v : Point). v.at) ps ≡ body → length ps ≡ length body
counted ps body e = sym (length-map ps (λ (p : Point). p.at)) ∙ ap (λ (xs : List ℕ). length xs) e

-- one place more of an order
pub place_more : (B : LoopCode) (levels inner : List Level) (root : Level) (c : Classes) (flow : Flow) (order : List ℕ) (i : ℕ) (old new : List Point) → IsOrder (rows flow.sources.items) order → length (rows flow.sources.items) ≡ length old → i < length order
    → AreFormsSet B levels inner root c flow (get_or order i 0) old new → ((j : ℕ) → j < i → IsFormPlace B levels inner root c flow old (get_or order j 0)) → (j : ℕ) → j < i + 1 → IsFormPlace B levels inner root c flow new (get_or order j 0)
place_more B levels inner root c flow order i old new o n l s before =
    more_places B levels inner root c flow order i old new l (let w = o.within i l in omega arith)
    (λ j k m k_in e. let r = o.after j k (omega arith) k_in in let lt = r.1 in o.once r.0 i (omega arith) l (r.2 ∙ e))
    (λ j m. o.once j i m l) s before

pub row_within : (G : Graph) (C : CellMap) (ls : List Level) (body : List ℕ) (flow : Flow) (ps : List Point) (p : ℕ) → IsFlow G C ls body flow → length ps ≡ length body → All (λ k. k < length ps) (row_at (rows flow.sources.items) p)
row_within G C ls body flow ps p f n i d l =
    let row = row_at (rows flow.sources.items) p in
    let s = (f.sources.each p (get_or row i d) (i, l, get_or_default row i (get_or row i d) d l)).0 in
    omega arith

pub row_apart : (flow : Flow) (order : List ℕ) (i : ℕ) → IsOrder (rows flow.sources.items) order → i < length order → All (λ k. k ≢ get_or order i 0) (row_at (rows flow.sources.items) (get_or order i 0))
row_apart flow order i o l j d m e =
    let row = row_at (rows flow.sources.items) (get_or order i 0) in
    let r = o.after i (get_or row j d) l (j, m, get_or_default row j (get_or row j d) d m) in
    let lt = r.1 in
    o.once r.0 i lt l (r.2 ∙ e)

-- the addresses of points without forms
pub bare_ats : (us : List ℕ) → map (λ (p : Point). p.at) (map without_forms us) ≡ us
bare_ats [] = refl
bare_ats (u ∷ us) = ap (λ xs. u ∷ xs) (bare_ats us)

first_of : (ls : List Level) (root : Level) (inner : List Level) → ls ≡ root ∷ inner → In ls root
first_of ls root inner e = subst (λ (xs : List Level). In xs root) (sym e) (inl refl)

heads : (x y : Level) (xs ys : List Level) → x ∷ xs ≡ y ∷ ys → x ≡ y
heads x y xs ys e = ap (λ (zs : List Level). get_or zs 0 x) e

abbrev tail_of : List Level → List Level
tail_of [] = []
tail_of (x ∷ xs) = xs

tails : (x y : Level) (xs ys : List Level) → x ∷ xs ≡ y ∷ ys → xs ≡ ys
tails x y xs ys e = ap tail_of e

pub row_some : (G : Graph) (C : CellMap) (ls : List Level) → AreNest G ls → (root : Level) (inner : List Level) → ls ≡ root ∷ inner → (flow : Flow) (ps : List Point) (p : ℕ) → IsFlow G C ls root.body flow → map (λ (v : Point). v.at) ps ≡ root.body → p < length ps
    → (point_at ps p).at ≢ root.header → 1 ≤ length (row_at (rows flow.sources.items) p)
row_some G C ls nest root inner split flow ps p f words l ne = by (heads nest.root root nest.inner inner (sym nest.are ∙ split))
  where
    by : nest.root ≡ root → 1 ≤ length (row_at (rows flow.sources.items) p)
    by e =
        let body = nest.root.body in
        let w : map (λ (v : Point). v.at) ps ≡ body = words ∙ ap (λ (z : Level). z.body) (sym e) in
        let n = counted ps body w in
        let g = subst (λ (z : Level). IsFlow G C ls z.body flow) (sym e) f in
        let lp : p < length body = omega arith in
        let a : (point_at ps p).at ≡ at body p = sym (get_or-map (λ (q : Point). q.at) ps p no_forms 0 l) ∙ ap (λ (xs : List ℕ). get_or xs p 0) w in
        let away : at body p ≢ nest.root.header = λ q. ne (a ∙ q ∙ ap (λ (z : Level). z.header) e) in
        let s = some_source G ls nest nest.root (first_of ls nest.root nest.inner nest.are) (at body p) (contains_has body (at body p) (Contains-get_or body p 0 lp)) away in
        let q = place_of_word body s.0 s.1.edge.from in
        let src = subst (λ (xs : List Level). HasSources G xs body (length body) (rows flow.sources.items)) nest.are g.sources in
        let k = forward_sources G nest.root nest.inner body (rows flow.sources.items) src p q.0 q.1 lp (subst (λ z. IsForwardIn (nest_of G nest.root nest.inner) body z (at body p)) (sym q.2) s.1) in
        let lt = k.1 in
        omega arith

-- the forms solve the equations of the nest
pub all_solved : (G : Graph) (C : CellMap) → AreFew C → (ls : List Level) → AreNest G ls → (root : Level) (inner : List Level) → ls ≡ root ∷ inner → (c : Classes) (flow : Flow) (ps : List Point) → IsFlow G C ls root.body flow → map (λ (v : Point). v.at) ps ≡ root.body
    → ((j : ℕ) → j < length flow.order.items → IsFormPlace (code_of G C) ls inner root c flow ps (get_or flow.order.items j 0)) → AreSolvedPoints G C ls c ps
all_solved G C few ls nest root inner split c flow ps f words right = by (heads root nest.root inner nest.inner (sym split ∙ nest.are)) (tails root nest.root inner nest.inner (sym split ∙ nest.are))
  where
    by : root ≡ nest.root → inner ≡ nest.inner → AreSolvedPoints G C ls c ps
    by e d =
        let w : map (λ (v : Point). v.at) ps ≡ nest.root.body = words ∙ ap (λ (z : Level). z.body) e in
        let g = subst (λ (z : Level). IsFlow G C ls z.body flow) e f in
        let r : (j : ℕ) → j < length flow.order.items → IsFormPlace (code_of G C) ls nest.inner nest.root c flow ps (get_or flow.order.items j 0) =
        λ j l. subst (λ (z : Level). IsFormPlace (code_of G C) ls nest.inner z c flow ps (get_or flow.order.items j 0)) e
        (subst (λ (zs : List Level). IsFormPlace (code_of G C) ls zs root c flow ps (get_or flow.order.items j 0)) d (right j l)) in
        let s = solved G C few ls nest c flow ps g w r in
        record { words = λ M n. w ∙ ap (λ (z : Nest). z.root.body) (is M n); forms = λ M n. subst (λ (z : Nest). AreForms z (code_of G C) (roles_by (code_of G C) ls c) (form_at ps)) (is M n) s }
      where
        is : (M : Nest) → IsNestOf G ls M → nest_of G nest.root nest.inner ≡ M
        is M n =
            let x = heads nest.root n.root nest.inner n.inner (sym nest.are ∙ n.are) in
            let y = tails nest.root n.root nest.inner n.inner (sym nest.are ∙ n.are) in
            ap (λ (z : Level). nest_of G z nest.inner) x ∙ ap (λ (zs : List Level). nest_of G n.root zs) y ∙ sym n.is

pub split_is : (ls : List Level) (x : Level) (rest : List Level) → 1 ≤ length ls → x ≡ get_or ls 0 x → rest ≡ drop 1 ls → ls ≡ x ∷ rest
split_is [] x rest l e d = absurd (omega arith)
split_is (y ∷ ys) x rest l e d = ap (λ z. z ∷ ys) (sym e) ∙ ap (λ zs. x ∷ zs) (sym d)
