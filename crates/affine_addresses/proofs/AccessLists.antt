-- Accesses that are put one after the other.
use Rattle.std.proofs.Common.{◌≡◌, ◌≢◌, ℕ, zero, suc, ◌+◌, ◌<◌, ◌≤◌, ◌⊎◌, inl, inr, List, [], ◌∷◌, ◌++◌, length, map, take, get_or, Option, Some, None, false, pos, refl, ap, sym, ◌∙◌, subst, arith}
use Rattle.std.specs.List.{Contains}
use Rattle.std.specs.List.Sorted.{IsStrictlyIncreasing}
use Rattle.std.proofs.lemmas.Bool.{cases_eq, cases_lt}
use Rattle.std.proofs.lemmas.List.{get_or-map, length-map, length_push, get_or_append_left, get_or_push, map-append, get_or_default}
use Rattle.std.proofs.lemmas.List.Kept.{AllPairs-from_increasing}
use Rattle.std.proofs.lemmas.List.Elements.{Contains-append_left, Contains-push, Contains-push_cases, Contains-get_or}
use Rattle.rv64_decode.specs.declared.memory.Width.TheVariants.{One}
use Rattle.linear_forms.specs.Forms.{LinearForm, pure}
use Rattle.loop_data.specs.declared.accesses.Access.{Access}
use Rattle.loop_data.specs.declared.shape.Level.{Level}
use Rattle.loop_data.specs.LoopCode.{LoopCode}
use Rattle.loop_data.specs.Results.{IsInnermost, IsAround}
use Rattle.loop_data.specs.Accesses.{Motion, motion_at, accessed_form, counted_with, access_count, IsAccessOf, AreAccesses, IsIrregular, IsLeastIrregular}
use Rattle.affine_addresses.specs.Lists.{IsMade, IsAdded, IsRefused, HasRoom, addresses, AreAccessesTo}

increasing_push : (xs : List ℕ) (a : ℕ) → IsStrictlyIncreasing xs → ((k : ℕ) → k < length xs → get_or xs k 0 < a) → IsStrictlyIncreasing (xs ++ a ∷ [])
increasing_push xs a up below k l = by (cases_lt (k + 1) (length xs))
  where
    n : length (xs ++ a ∷ []) ≡ length xs + 1
    n = length_push xs a

    by : (k + 1 < length xs) ⊎ (length xs ≤ k + 1) → get_or (xs ++ a ∷ []) k 0 < get_or (xs ++ a ∷ []) (k + 1) 0
    by (inl m) =
        let x = get_or_append_left xs (a ∷ []) 0 k (omega arith) in
        let y = get_or_append_left xs (a ∷ []) 0 (k + 1) m in
        let z = up k m in
        omega arith
    by (inr m) =
        let e = n in
        let x = get_or_append_left xs (a ∷ []) 0 k (omega arith) in
        let y = get_or_push xs a 0 (k + 1) (omega arith) in
        let z = below k (omega arith) in
        omega arith

-- how many of the first words are accesses
count_more : (B : LoopCode) (body : List ℕ) (i : ℕ) → i < length body → access_count B (take (suc i) body) ≡ counted_with (motion_at B (get_or body i 0)) (access_count B (take i body))
count_more B [] i l = absurd (omega arith)
count_more B (u ∷ us) zero l = refl
count_more B (u ∷ us) (suc i) l =
    ap (counted_with (motion_at B u)) (count_more B us i (omega arith)) ∙ swap (motion_at B u) (motion_at B (get_or us i 0)) (access_count B (take i us))
  where
    swap : (m o : Option Motion) (n : ℕ) → counted_with m (counted_with o n) ≡ counted_with o (counted_with m n)
    swap None o n = refl
    swap (Some m) None n = refl
    swap (Some m) (Some o) n = refl

count_within : (B : LoopCode) (body : List ℕ) (k : ℕ) → access_count B (take k body) ≤ access_count B body
count_within B [] zero = omega arith
count_within B [] (suc k) = omega arith
count_within B (u ∷ us) zero = omega arith
count_within B (u ∷ us) (suc k) = go (motion_at B u) (count_within B us k)
  where
    go : (m : Option Motion) → access_count B (take k us) ≤ access_count B us → counted_with m (access_count B (take k us)) ≤ counted_with m (access_count B us)
    go None l = l
    go (Some m) l = omega arith

pub has_room : (B : LoopCode) (body : List ℕ) (i n : ℕ) → i < length body → n ≡ access_count B (take i body) → access_count B body ≤ 32 → HasRoom (motion_at B (get_or body i 0)) n
has_room B body i n l e few = go (motion_at B (get_or body i 0)) refl
  where
    go : (o : Option Motion) → motion_at B (get_or body i 0) ≡ o → HasRoom o n
    go None q = tt
    go (Some m) q =
        let a = count_more B body i l ∙ ap (λ (o : Option Motion). counted_with o (access_count B (take i body))) q in
        let b = count_within B body (suc i) in
        omega arith

pub no_accesses : (levels : List Level) (body : List ℕ) (B : LoopCode) (at : ℕ → ℕ → Option LinearForm) → AreAccessesTo levels body B at 0 []
no_accesses levels body B at =
    record { ordered = λ k l. absurd (omega arith); each = λ a c. absurd (let l = c.1 in omega arith); every = λ k m l e. absurd (omega arith); count = none body }
  where
    none : (xs : List ℕ) → 0 ≡ access_count B (take 0 xs)
    none [] = refl
    none (x ∷ xs) = refl

-- the access that was made is that of the word
made_is : (levels : List Level) (B : LoopCode) (at : ℕ → ℕ → Option LinearForm) (u : ℕ) (m : Motion) (a : Access) → motion_at B u ≡ Some m → IsMade levels (at u) u m a → IsAccessOf levels B at a
made_is levels B at u m a e made =
    let q = sym made.at in
    record {
      motion = m;
      moves = subst (λ x. motion_at B x ≡ Some m) q e;
      form = subst (λ x. accessed_form (at x) m ≡ Some a.form) q made.form;
      width = made.width;
      store = made.store;
      innermost = subst (λ x. IsInnermost levels x a.level) q made.innermost;
      around = λ k l. subst (λ x. IsAround levels x k (get_or a.around k 0)) q (made.around k l);
    }

module _ (levels : List Level) (body : List ℕ) (B : LoopCode) (at : ℕ → ℕ → Option LinearForm) (up : IsStrictlyIncreasing body) (i : ℕ) (l : i < length body) where
  one_more : (old new : List Access) (o : Option Motion) → motion_at B (get_or body i 0) ≡ o → IsAdded levels (at (get_or body i 0)) (get_or body i 0) o old new → AreAccessesTo levels body B at i old → AreAccessesTo levels body B at (suc i) new
  one_more old new None is e a = subst (AreAccessesTo levels body B at (suc i)) (sym e) (record {
    ordered = a.ordered;
    each = λ x c. let y = a.each x c in (y.0, (let m = y.1 in omega arith), y.2, y.3);
    every = λ k m lt q. by k m lt q (cases_eq k i);
    count = a.count ∙ sym (count_more B body i l ∙ ap (λ (o : Option Motion). counted_with o (access_count B (take i body))) is);
  })
    where
      by : (k : ℕ) (m : Motion) → k < suc i → motion_at B (get_or body k 0) ≡ Some m → (k ≡ i) ⊎ (k ≢ i) → Contains (addresses old) (get_or body k 0)
      by k m lt q (inl s) = let z = subst (λ j. motion_at B (get_or body j 0) ≡ Some m) s q in absurd (let y = sym is ∙ z in cc)
      by k m lt q (inr ne) = a.every k m (omega arith) q
  one_more old new (Some g) is (x, own, e) a = subst (AreAccessesTo levels body B at (suc i)) (sym e) (record {
    ordered = subst (λ xs. IsStrictlyIncreasing xs) (sym ats) (increasing_push (addresses old) x.at a.ordered below);
    each = λ y c. which y (Contains-push_cases old x y c);
    every = λ k m lt q. by k m lt q (cases_eq k i);
    count = length_push old x ∙ counts;
  })
    where
      ats : addresses (old ++ x ∷ []) ≡ addresses old ++ x.at ∷ []
      ats = map-append (λ (z : Access). z.at) old (x ∷ [])

      counts : length old + 1 ≡ access_count B (take (suc i) body)
      counts =
          let n = a.count in
          let m = count_more B body i l ∙ ap (λ (o : Option Motion). counted_with o (access_count B (take i body))) is in
          omega arith

      below : (k : ℕ) → k < length (addresses old) → get_or (addresses old) k 0 < x.at
      below k m =
          let n = length-map old (λ (z : Access). z.at) in
          let lt : k < length old = omega arith in
          let z = get_or old k x in
          let y = a.each z (k, lt, get_or_default old k z x lt) in
          let low = y.1 in
          let r = AllPairs-from_increasing body up y.0 i 0 low l in
          let p = get_or-map (λ (z : Access). z.at) old k x 0 lt in
          let v = y.2 in
          let w = own.at in
          omega arith

      which : (y : Access) → Contains old y ⊎ (x ≡ y) → (k : ℕ) × (k < suc i) × (y.at ≡ get_or body k 0) × IsAccessOf levels B at y
      which y (inl c) = let z = a.each y c in (z.0, (let m = z.1 in omega arith), z.2, z.3)
      which y (inr q) = (i, omega arith, subst (λ (z : Access). z.at ≡ get_or body i 0) q own.at, subst (λ (z : Access). IsAccessOf levels B at z) q (made_is levels B at (get_or body i 0) g x is own))

      by : (k : ℕ) (m : Motion) → k < suc i → motion_at B (get_or body k 0) ≡ Some m → (k ≡ i) ⊎ (k ≢ i) → Contains (addresses (old ++ x ∷ [])) (get_or body k 0)
      by k m lt q (inl s) =
          subst (λ j. Contains (addresses (old ++ x ∷ [])) (get_or body j 0)) (sym s)
          (subst (λ xs. Contains xs (get_or body i 0)) (sym ats) (subst (λ y. Contains (addresses old ++ x.at ∷ []) y) own.at (Contains-push (addresses old) x.at)))
      by k m lt q (inr ne) = subst (λ xs. Contains xs (get_or body k 0)) (sym ats) (Contains-append_left (addresses old) (x.at ∷ []) (get_or body k 0) (a.every k m (omega arith) q))

  pub access_more : (old new : List Access) → IsAdded levels (at (get_or body i 0)) (get_or body i 0) (motion_at B (get_or body i 0)) old new → AreAccessesTo levels body B at i old → AreAccessesTo levels body B at (i + 1) new
  access_more old new added a =
      let e : suc i ≡ i + 1 = omega arith in
      subst (λ j. AreAccessesTo levels body B at j new) e (one_more old new (motion_at B (get_or body i 0)) refl added a)

  -- a word whose access was put into the list is regular
  regular : (list : List Access) (k : ℕ) → AreAccessesTo levels body B at i list → k < i → IsIrregular body B at (get_or body k 0) → ⊥
  regular list k a lt h =
      let c = a.every k h.motion lt h.moves in
      let n = length-map list (λ (z : Access). z.at) in
      let j = c.0 in
      let m : j < length list = let q = c.1 in omega arith in
      let z = get_or list j here in
      let y = a.each z (j, m, get_or_default list j z here m) in
      let same_at : z.at ≡ get_or body k 0 = sym (get_or-map (λ (z : Access). z.at) list j here 0 m) ∙ get_or_default (addresses list) j 0 (get_or body k 0) c.1 ∙ c.2 in
      let w = y.3 in
      let moves = subst (λ x. motion_at B x ≡ Some w.motion) same_at w.moves in
      let form = subst (λ x. accessed_form (at x) w.motion ≡ Some z.form) same_at w.form in
      let e : w.motion ≡ h.motion = (let q = sym moves ∙ h.moves in cc) in
      let f = subst (λ (x : Motion). accessed_form (at (get_or body k 0)) x ≡ Some z.form) e form in
      let g = sym f ∙ h.irregular in
      absurd (cc)
    where
      here : Access
      here = record { at = 0; level = 0; around = []; form = pure (pos 0); width = One; store = false }

  refused : (o : Option Motion) → motion_at B (get_or body i 0) ≡ o → IsRefused (at (get_or body i 0)) o → IsIrregular body B at (get_or body i 0)
  refused None e r = absurd r
  refused (Some m) e r = record { inside = Contains-get_or body i 0 l; motion = m; moves = e; irregular = r }

  pub least_irregular : (list : List Access) (v : ℕ) → v ≡ get_or body i 0 → IsRefused (at (get_or body i 0)) (motion_at B (get_or body i 0)) → AreAccessesTo levels body B at i list → IsLeastIrregular body B at v
  least_irregular list v e r a = subst (IsLeastIrregular body B at) (sym e) (record { is = refused (motion_at B (get_or body i 0)) refl r; least = least })
    where
      least : (w : ℕ) → IsIrregular body B at w → get_or body i 0 ≤ w
      least w h =
          let c = h.inside in
          let q : get_or body c.0 0 ≡ w = get_or_default body c.0 0 w c.1 ∙ c.2 in
          by c.0 c.1 q (cases_lt c.0 i)
        where
          by : (k : ℕ) → k < length body → get_or body k 0 ≡ w → (k < i) ⊎ (i ≤ k) → get_or body i 0 ≤ w
          by k m q (inl lt) = absurd (regular list k a lt (subst (IsIrregular body B at) (sym q) h))
          by k m q (inr le) = at_or_above (cases_eq k i)
            where
              at_or_above : (k ≡ i) ⊎ (k ≢ i) → get_or body i 0 ≤ w
              at_or_above (inl s) = let z : get_or body k 0 ≡ get_or body i 0 = ap (λ j. get_or body j 0) s in omega arith
              at_or_above (inr ne) = let z = AllPairs-from_increasing body up i k 0 (omega arith) m in omega arith

-- after all words the list has all accesses
pub all_accesses : (levels : List Level) (body : List ℕ) (B : LoopCode) (at : ℕ → ℕ → Option LinearForm) (i : ℕ) (list : List Access) → i ≡ length body → AreAccessesTo levels body B at i list → AreAccesses levels body B at list
all_accesses levels body B at i list e a = record { ordered = a.ordered; each = each; every = every }
  where
    each : (x : Access) → Contains list x → Contains body x.at × IsAccessOf levels B at x
    each x c =
        let y = a.each x c in (
          subst (Contains body) (sym y.2) (Contains-get_or body y.0 0 (let m = y.1 in omega arith)),
          y.3,
        )

    every : (u : ℕ) (m : Motion) → Contains body u → motion_at B u ≡ Some m → Contains (map (λ (x : Access). x.at) list) u
    every u m c q =
        let k = c.0 in
        let s : get_or body k 0 ≡ u = get_or_default body k 0 u c.1 ∙ c.2 in
        subst (Contains (addresses list)) s (a.every k m (let n = c.1 in omega arith) (subst (λ x. motion_at B x ≡ Some m) (sym s) q))
