-- Duties that are put one after the other.
use Rattle.std.proofs.Common.{◌≡◌, ◌≢◌, ℕ, ◌+◌, ◌<◌, ◌≤◌, ◌⊎◌, inl, inr, List, [], ◌∷◌, ◌++◌, length, map, get_or, slice_index, Option, Some, None, ap, sym, ◌∙◌, subst, arith}
use Rattle.std.specs.List.{Contains}
use Rattle.std.specs.List.Sorted.{IsStrictlyIncreasing}
use Rattle.std.proofs.lemmas.Bool.{cases_eq, cases_lt}
use Rattle.std.proofs.lemmas.List.{get_or-map, length-map, length_push, get_or_append_left, get_or_push, map-append, get_or_default}
use Rattle.std.proofs.lemmas.List.Kept.{AllPairs-from_increasing}
use Rattle.std.proofs.lemmas.List.Elements.{Contains-append_left, Contains-push, Contains-push_cases, Contains-get_or}
use Rattle.linear_forms.specs.Forms.{LinearForm}
use Rattle.loop_data.specs.declared.equations.Duty.{Duty}
use Rattle.loop_data.specs.Points.{Point, no_forms, point_at}
use Rattle.loop_data.specs.declared.flow.Flow.{Flow}
use Rattle.loop_data.specs.declared.shape.Level.{Level}
use Rattle.loop_data.specs.LoopCode.{LoopCode}
use Rattle.loop_data.specs.FormRows.{duty}
use Rattle.loop_data.specs.Lookups.{form_at}
use Rattle.loop_data.specs.Results.{IsInnermost, IsAround, IsDuty, AreDuties}
use Rattle.register_equations.specs.Rows.{forms_in}
use Rattle.register_equations.specs.States.{owed_at, IsDutyOf, duty_ats, IsDutyAdded, AreDutiesTo}
use Rattle.register_equations.proofs.Solving.{at_by}

increasing_push : (xs : List ℕ) (a : ℕ) → IsStrictlyIncreasing xs → ((k : ℕ) → k < length xs → get_or xs k 0 < a) → IsStrictlyIncreasing (xs ++ a ∷ [])
increasing_push xs a up below k l = by (cases_lt (k + 1) (length xs))
  where
    n : length (xs ++ a ∷ []) ≡ length xs + 1
    n = length_push xs a

    by : (k + 1 < length xs) ⊎ (length xs ≤ k + 1) → get_or (xs ++ a ∷ []) k 0 < get_or (xs ++ a ∷ []) (k + 1) 0
    by (inl m) =
        let x = get_or_append_left xs (a ∷ []) 0 k (omega arith) in
        let y = get_or_append_left xs (a ∷ []) 0 (k + 1) m in
        let z = up k m in
        omega arith
    by (inr m) =
        let e = n in
        let x = get_or_append_left xs (a ∷ []) 0 k (omega arith) in
        let y = get_or_push xs a 0 (k + 1) (omega arith) in
        let z = below k (omega arith) in
        omega arith

pub duty_here : (levels : List Level) (p : Point) (u : ℕ) (f : LinearForm) (d : Duty) → u ≡ p.at → d.at ≡ u → d.form ≡ f → IsInnermost levels u d.level → ((k : ℕ) → k < 3 → IsAround levels u k (slice_index d.around k)) → IsDutyOf levels p (Some f) d
duty_here levels p u f d at a e i r =
    record {
      at = a ∙ at;
      form = ap (λ x. Some x) (sym e);
      innermost = subst (λ v. IsInnermost levels v d.level) at i;
      around = λ k l. subst (λ v. IsAround levels v k (slice_index d.around k)) at (r k l);
    }

pub no_duties : (flow : Flow) (levels : List Level) (points : List Point) → AreDutiesTo flow levels points 0 []
no_duties flow levels points =
    record { ordered = λ k l. absurd (omega arith); each = λ d c. absurd (let l = c.1 in omega arith); every = λ k f l e. absurd (omega arith) }

pub duty_more : (flow : Flow) (levels : List Level) (points : List Point) (i : ℕ) (old new : List Duty) (o : Option LinearForm) → IsStrictlyIncreasing (map (λ (p : Point). p.at) points) → i < length points
    → owed_at flow points i ≡ o → IsDutyAdded levels (point_at points i) o old new → AreDutiesTo flow levels points i old → AreDutiesTo flow levels points (i + 1) new
duty_more flow levels points i old new None up l is e a = subst (AreDutiesTo flow levels points (i + 1)) (sym e) (record {
  ordered = a.ordered;
  each = λ d c. let x = a.each d c in (x.0, (let m = x.1 in omega arith), x.2);
  every = λ k f m q. by k f m q (cases_eq k i);
})
  where
    by : (k : ℕ) (f : LinearForm) → k < i + 1 → owed_at flow points k ≡ Some f → (k ≡ i) ⊎ (k ≢ i) → Contains (duty_ats old) (point_at points k).at
    by k f m q (inl s) = let z = subst (λ j. owed_at flow points j ≡ Some f) s q in absurd (let y = sym is ∙ z in cc)
    by k f m q (inr ne) = a.every k f (omega arith) q
duty_more flow levels points i old new (Some g) up l is (d, own, e) a = subst (AreDutiesTo flow levels points (i + 1)) (sym e) (record {
  ordered = subst (λ xs. IsStrictlyIncreasing xs) (sym ats) (increasing_push (duty_ats old) d.at a.ordered below);
  each = λ x c. which x (Contains-push_cases old d x c);
  every = λ k f m q. by k f m q (cases_eq k i);
})
  where
    ats : duty_ats (old ++ d ∷ []) ≡ duty_ats old ++ d.at ∷ []
    ats = map-append (λ (x : Duty). x.at) old (d ∷ [])

    at_of : (k : ℕ) → k < length points → get_or (map (λ (p : Point). p.at) points) k 0 ≡ (point_at points k).at
    at_of k m = get_or-map (λ (p : Point). p.at) points k no_forms 0 m

    below : (k : ℕ) → k < length (duty_ats old) → get_or (duty_ats old) k 0 < d.at
    below k m =
        let n = length-map old (λ (x : Duty). x.at) in
        let lt : k < length old = omega arith in
        let x = get_or old k d in
        let y = a.each x (k, lt, get_or_default old k x d lt) in
        let low = y.1 in
        let r = AllPairs-from_increasing (map (λ (p : Point). p.at) points) up y.0 i 0 low (let q = length-map points (λ (p : Point). p.at) in omega arith) in
        let s = at_of y.0 (omega arith) in
        let t = at_of i l in
        let u = get_or-map (λ (x : Duty). x.at) old k d 0 lt in
        let v = y.2.at in
        let w = own.at in
        omega arith

    which : (x : Duty) → Contains old x ⊎ (d ≡ x) → (k : ℕ) × (k < i + 1) × IsDutyOf levels (point_at points k) (owed_at flow points k) x
    which x (inl c) = let y = a.each x c in (y.0, (let m = y.1 in omega arith), y.2)
    which x (inr q) = (i, omega arith, subst (λ (z : Duty). IsDutyOf levels (point_at points i) (owed_at flow points i) z) q (subst (λ (o : Option LinearForm). IsDutyOf levels (point_at points i) o d) (sym is) own))

    by : (k : ℕ) (f : LinearForm) → k < i + 1 → owed_at flow points k ≡ Some f → (k ≡ i) ⊎ (k ≢ i) → Contains (duty_ats (old ++ d ∷ [])) (point_at points k).at
    by k f m q (inl s) = subst (λ j. Contains (duty_ats (old ++ d ∷ [])) (point_at points j).at) (sym s) (subst (λ xs. Contains xs (point_at points i).at) (sym ats) (subst (λ y. Contains (duty_ats old ++ d.at ∷ []) y) own.at (Contains-push (duty_ats old) d.at)))
    by k f m q (inr ne) = subst (λ xs. Contains xs (point_at points k).at) (sym ats) (Contains-append_left (duty_ats old) (d.at ∷ []) (point_at points k).at (a.every k f (omega arith) q))

-- they are those of the words of a body
pub duties_right : (B : LoopCode) (flow : Flow) (levels : List Level) (ps : List Point) (body : List ℕ) (duties : List Duty) → map (λ (p : Point). p.at) ps ≡ body → IsStrictlyIncreasing body → ((k : ℕ) → k < length ps → owed_at flow ps k ≡ duty B (point_at ps k).at (forms_in (point_at ps k).forms)) → AreDutiesTo flow levels ps (length ps) duties → AreDuties levels body B (form_at ps) duties
duties_right B flow levels ps body duties words up owes a = record { ordered = a.ordered; each = each; every = every }
  where
    count : length ps ≡ length body
    count = sym (length-map ps (λ (p : Point). p.at)) ∙ ap (λ (xs : List ℕ). length xs) words

    at_place : (k : ℕ) → k < length ps → (point_at ps k).at ≡ get_or body k 0
    at_place k l = sym (get_or-map (λ (p : Point). p.at) ps k no_forms 0 l) ∙ ap (λ (xs : List ℕ). get_or xs k 0) words

    rise : (i j : ℕ) → i < j → j < length ps → (point_at ps i).at < (point_at ps j).at
    rise i j lt m =
        let n = count in
        let p = AllPairs-from_increasing body up i j 0 lt (omega arith) in
        let x = at_place i (omega arith) in
        let y = at_place j m in
        omega arith

    forms : (k : ℕ) → k < length ps → form_at ps (point_at ps k).at ≡ forms_in (point_at ps k).forms
    forms k l = at_by ps k rise l

    each : (d : Duty) → Contains duties d → Contains body d.at × IsDuty levels B (form_at ps) d
    each d c =
        let y = a.each d c in
        let k = y.0 in
        let own = y.2 in
        let there : Contains body (point_at ps k).at = subst (Contains body) (sym (at_place k y.1)) (Contains-get_or body k 0 (let n = count in let m = y.1 in omega arith)) in
        let form : duty B (point_at ps k).at (form_at ps (point_at ps k).at) ≡ Some d.form = ap (λ (H : ℕ → Option LinearForm). duty B (point_at ps k).at H) (forms k y.1) ∙ sym (owes k y.1) ∙ own.form in (
          subst (Contains body) (sym own.at) there,
          record {
            form = subst (λ u. duty B u (form_at ps u) ≡ Some d.form) (sym own.at) form;
            innermost = subst (λ u. IsInnermost levels u d.level) (sym own.at) own.innermost;
            around = λ j l. subst (λ u. IsAround levels u j (get_or d.around j 0)) (sym own.at) (own.around j l);
          },
        )

    every : (u : ℕ) (f : LinearForm) → Contains body u → duty B u (form_at ps u) ≡ Some f → Contains (map (λ (d : Duty). d.at) duties) u
    every u f c e =
        let k = c.0 in
        let l : k < length ps = let n = count in let m = c.1 in omega arith in
        let q : (point_at ps k).at ≡ u = at_place k l ∙ get_or_default body k 0 u c.1 ∙ c.2 in
        let g : owed_at flow ps k ≡ Some f = owes k l ∙ ap (λ (H : ℕ → Option LinearForm). duty B (point_at ps k).at H) (sym (forms k l)) ∙ subst (λ z. duty B z (form_at ps z) ≡ Some f) (sym q) e in
        subst (Contains (duty_ats duties)) q (a.every k f l g)
