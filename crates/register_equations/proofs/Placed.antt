-- The forms of one place after the other.
use Rattle.std.proofs.Common.{◌≡◌, ◌≢◌, ℕ, ◌+◌, ◌<◌, ◌⊎◌, inl, inr, List, length, get_or, Option, None, ap, sym, ◌∙◌, subst, arith}
use Rattle.std.specs.List.{All, Contains}
use Rattle.std.proofs.lemmas.Bool.{cases_eq}
use Rattle.std.proofs.lemmas.List.{get_or-set_same, get_or-set_other, get_or_default}
use Rattle.linear_forms.specs.Forms.{LinearForm}
use Rattle.loop_data.specs.declared.classes.Classes.{Classes}
use Rattle.loop_data.specs.Points.{Point, no_forms, point_at}
use Rattle.loop_data.specs.declared.flow.Flow.{Flow}
use Rattle.loop_data.specs.declared.shape.Level.{Level}
use Rattle.loop_data.specs.LoopCode.{LoopCode}
use Rattle.loop_data.specs.Flows.{rows, row_at}
use Rattle.register_equations.specs.Rows.{forms_in}
use Rattle.register_equations.specs.States.{past, IsKept, Comes, IsMet, IsHeaderForm, AreFormsAt, IsFormPlace, AreFormsSet}

pub default_at : (ps : List Point) (p : ℕ) (x : Point) → p < length ps → (get_or ps p x).at ≡ (point_at ps p).at
default_at ps p x l = ap (λ (y : Point). y.at) (get_or_default ps p x no_forms l)

pub inner_state : (B : LoopCode) (levels inner : List Level) (root : Level) (c : Classes) (flow : Flow) (points : List Point) (xs ys : List ℕ) (u v : ℕ) (state : List (Option LinearForm)) (l : Level) → Contains inner l → u ≡ l.header → u ≢ root.header
    → length state ≡ 48 → ((r : ℕ) → r < 48 → IsHeaderForm B levels c l (IsMet inner flow points xs u r) r (forms_in state r)) → xs ≡ ys → u ≡ v → AreFormsAt B levels inner root c flow points ys v state
inner_state B levels inner root c flow points xs ys u v state l i h ne n all e at =
    subst (λ zs. AreFormsAt B levels inner root c flow points zs v state) e (subst (λ w. AreFormsAt B levels inner root c flow points xs w state) at (record {
      count = n;
      first = λ q. absurd (ne q);
      other = λ q. inl (l, i, h, all);
    }))

pub met_state : (B : LoopCode) (levels inner : List Level) (root : Level) (c : Classes) (flow : Flow) (points : List Point) (xs ys : List ℕ) (u v : ℕ) (state : List (Option LinearForm)) → ((l : Level) → Contains inner l → u ≢ l.header) → u ≢ root.header
    → length state ≡ 48 → ((r : ℕ) → r < 48 → IsMet inner flow points xs u r (forms_in state r)) → xs ≡ ys → u ≡ v → AreFormsAt B levels inner root c flow points ys v state
met_state B levels inner root c flow points xs ys u v state none ne n all e at =
    subst (λ zs. AreFormsAt B levels inner root c flow points zs v state) e (subst (λ w. AreFormsAt B levels inner root c flow points xs w state) at (record {
      count = n;
      first = λ q. absurd (ne q);
      other = λ q. inr (none, all);
    }))

-- what comes along the edge from a place depends on its point alone
moved : (inner : List Level) (flow : Flow) (old new : List Point) (k v r : ℕ) (f : LinearForm) → point_at old k ≡ point_at new k → Comes inner flow old k v r f → Comes inner flow new k v r f
moved inner flow old new k v r f e c =
    record {
      after = ap (λ (p : Point). Rattle.loop_data.specs.FormRows.form_after (Rattle.register_equations.specs.States.code_with (get_or flow.instrs.items k None) (get_or flow.uses.items k None)) p.at (forms_in p.forms) r) (sym e) ∙ c.after;
      kept = subst (λ (p : Point). All (IsKept p.at v f) inner) e c.kept;
    }

-- places of sources that keep their points
abbrev pub AreSame : List Point → List Point → List ℕ → Type 0
AreSame old new ks = (k : ℕ) → Contains ks k → point_at old k ≡ point_at new k

at_of : (ks : List ℕ) (i d : ℕ) → i < length ks → Contains ks (get_or ks i d)
at_of ks i d l = (i, l, get_or_default ks i (get_or ks i d) d l)

pub all_moved : (inner : List Level) (flow : Flow) (old new : List Point) (ks : List ℕ) (v r : ℕ) (f : LinearForm) → AreSame old new ks → All (λ k. Comes inner flow old k v r f) ks → All (λ k. Comes inner flow new k v r f) ks
all_moved inner flow old new ks v r f same a i d l = moved inner flow old new (get_or ks i d) v r f (same (get_or ks i d) (at_of ks i d l)) (a i d l)

met_moved : (inner : List Level) (flow : Flow) (old new : List Point) (ks : List ℕ) (v r : ℕ) (o : Option LinearForm) → AreSame old new ks → IsMet inner flow old ks v r o → IsMet inner flow new ks v r o
met_moved inner flow old new ks v r o same m f =
    (λ e. all_moved inner flow old new ks v r f same ((m f).0 e), λ a. (m f).1 (all_moved inner flow new old ks v r f (λ k c. sym (same k c)) a))

pub state_moved : (B : LoopCode) (levels inner : List Level) (root : Level) (c : Classes) (flow : Flow) (old new : List Point) (ks : List ℕ) (v : ℕ) (state : List (Option LinearForm)) → AreSame old new ks
    → AreFormsAt B levels inner root c flow old ks v state → AreFormsAt B levels inner root c flow new ks v state
state_moved B levels inner root c flow old new ks v state same s = record { count = s.count; first = s.first; other = λ ne. by (s.other ne) }
  where
    header : (l : Level) (r : ℕ) (o : Option LinearForm) → IsHeaderForm B levels c l (IsMet inner flow old ks v r) r o → IsHeaderForm B levels c l (IsMet inner flow new ks v r) r o
    header l r o h = record { outside = h.outside; met = met_moved inner flow old new ks v r h.outside same h.met; is = h.is }

    by : ((l : Level) × Contains inner l × (v ≡ l.header) × ((r : ℕ) → r < 48 → IsHeaderForm B levels c l (IsMet inner flow old ks v r) r (forms_in state r)))
        ⊎ (((l : Level) → Contains inner l → v ≢ l.header) × ((r : ℕ) → r < 48 → IsMet inner flow old ks v r (forms_in state r)))
        → ((l : Level) × Contains inner l × (v ≡ l.header) × ((r : ℕ) → r < 48 → IsHeaderForm B levels c l (IsMet inner flow new ks v r) r (forms_in state r)))
        ⊎ (((l : Level) → Contains inner l → v ≢ l.header) × ((r : ℕ) → r < 48 → IsMet inner flow new ks v r (forms_in state r)))
    by (inl a) = inl (a.0, a.1, a.2, λ r lt. header a.0 r (forms_in state r) (a.3 r lt))
    by (inr a) = inr (a.0, λ r lt. met_moved inner flow old new ks v r (forms_in state r) same (a.1 r lt))

-- the places of an order that is right so far, and one more
pub more_places : (B : LoopCode) (levels inner : List Level) (root : Level) (c : Classes) (flow : Flow) (order : List ℕ) (i : ℕ) (old new : List Point)
    → i < length order → get_or order i 0 < length old
    → ((j k : ℕ) → j < i + 1 → Contains (row_at (rows flow.sources.items) (get_or order j 0)) k → k ≢ get_or order i 0)
    → ((j : ℕ) → j < i → get_or order j 0 ≢ get_or order i 0)
    → AreFormsSet B levels inner root c flow (get_or order i 0) old new
    → ((j : ℕ) → j < i → IsFormPlace B levels inner root c flow old (get_or order j 0))
    → (j : ℕ) → j < i + 1 → IsFormPlace B levels inner root c flow new (get_or order j 0)
more_places B levels inner root c flow order i old new l within sources once s before j m = by (cases_eq j i)
  where
    p : ℕ
    p = get_or order i 0

    pt : Point
    pt = record { at = (point_at old p).at; forms = s.state }

    apart : (k : ℕ) → k ≢ p → point_at old k ≡ point_at new k
    apart k ne = sym (get_or-set_other old p k pt no_forms ne) ∙ ap (λ (ps : List Point). point_at ps k) (sym s.is)

    here : point_at new p ≡ pt
    here = ap (λ (ps : List Point). point_at ps p) s.is ∙ get_or-set_same old p pt no_forms within

    by : (j ≡ i) ⊎ (j ≢ i) → IsFormPlace B levels inner root c flow new (get_or order j 0)
    by (inl e) = subst (λ q. IsFormPlace B levels inner root c flow new (get_or order q 0)) (sym e)
        (subst (λ (x : Point). AreFormsAt B levels inner root c flow new (row_at (rows flow.sources.items) p) x.at x.forms) (sym here)
        (state_moved B levels inner root c flow old new (row_at (rows flow.sources.items) p) (point_at old p).at s.state (λ k k_in. apart k (sources i k (omega arith) k_in)) s.right))
    by (inr ne) =
        let q = get_or order j 0 in
        let lt : j < i = omega arith in
        subst (λ (x : Point). AreFormsAt B levels inner root c flow new (row_at (rows flow.sources.items) q) x.at x.forms) (apart q (once j lt))
        (state_moved B levels inner root c flow old new (row_at (rows flow.sources.items) q) (point_at old q).at (point_at old q).forms (λ k k_in. apart k (sources j k m k_in)) (before j lt))
