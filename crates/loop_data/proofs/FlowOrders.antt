-- Orders of places, built by sweeps: a place is put in once all of its row are.
use Rattle.std.proofs.Common.{◌≡◌, ◌≢◌, ℕ, zero, suc, ◌+◌, ◌<◌, ◌≤◌, ◌⊎◌, ◌↔◌, inl, inr, Bool, true, false, if◌then◌else◌, List, [], ◌∷◌, ◌++◌, length, get_or, set, replicate, refl, ap, sym, ◌∙◌, subst, arith}
use Rattle.std.specs.List.{All, Contains}
use Rattle.std.proofs.lemmas.Bool.{cases_eq, cases_lt}
use Rattle.std.proofs.lemmas.List.{get_or-set_same, get_or-set_other, length-set, length-replicate, get_or_default}
use Rattle.std.proofs.lemmas.List.Elements.{Contains-push_cases, Contains-push, Contains-append_left, Contains-get_or}
use Rattle.loop_data.specs.Flows.{row_at, IsOrder, IsWholeOrder, IsRowRank, IsSet, IsMarked, IsVisit, AreRowsWithin, AreSetBelow, IsSweep}
use Rattle.loop_data.proofs.Tests.{yes_no}

kept_below : (xs : List ℕ) (p i : ℕ) → i < length xs → get_or (xs ++ p ∷ []) i 0 ≡ get_or xs i 0
kept_below [] p i l = absurd (omega arith)
kept_below (x ∷ xs) p zero l = refl
kept_below (x ∷ xs) p (suc i) l = kept_below xs p i (omega arith)

last_is : (xs : List ℕ) (p : ℕ) → get_or (xs ++ p ∷ []) (length xs) 0 ≡ p
last_is [] p = refl
last_is (x ∷ xs) p = last_is xs p

longer : (xs : List ℕ) (p : ℕ) → length (xs ++ p ∷ []) ≡ length xs + 1
longer [] p = refl
longer (x ∷ xs) p = let e = longer xs p in omega arith

-- a number of a list stands at a place
place_in : (xs : List ℕ) (k : ℕ) → Contains xs k → (j : ℕ) × (j < length xs) × (get_or xs j 0 ≡ k)
place_in xs k c = (c.0, c.1, get_or_default xs c.0 0 k c.1 ∙ c.2)

-- a place is put behind those of its row
order_more : (rows : List (List ℕ)) (places : List ℕ) (p : ℕ) → p < length rows → ((k : ℕ) → Contains (row_at rows p) k → Contains places k) → (Contains places p → ⊥) → IsOrder rows places → IsOrder rows (places ++ p ∷ [])
order_more rows places p within before absent o = record { within = inside; after = after; once = once }
  where
    n : ℕ
    n = length places

    more : List ℕ
    more = places ++ p ∷ []

    count : length more ≡ n + 1
    count = longer places p

    at : (i : ℕ) → i < length more → ((i < n) × (get_or more i 0 ≡ get_or places i 0)) ⊎ ((i ≡ n) × (get_or more i 0 ≡ p))
    at i l = by (cases_lt i n)
      where
        by : (i < n) ⊎ (n ≤ i) → ((i < n) × (get_or more i 0 ≡ get_or places i 0)) ⊎ ((i ≡ n) × (get_or more i 0 ≡ p))
        by (inl m) = inl (m, kept_below places p i m)
        by (inr m) = let c = count in let e : i ≡ n = omega arith in inr (e, ap (λ q. get_or more q 0) e ∙ last_is places p)

    inside : (i : ℕ) → i < length more → get_or more i 0 < length rows
    inside i l = by (at i l)
      where
        by : ((i < n) × (get_or more i 0 ≡ get_or places i 0)) ⊎ ((i ≡ n) × (get_or more i 0 ≡ p)) → get_or more i 0 < length rows
        by (inl m) = subst (λ q. q < length rows) (sym m.1) (o.within i m.0)
        by (inr m) = subst (λ q. q < length rows) (sym m.1) within

    after : (i k : ℕ) → i < length more → Contains (row_at rows (get_or more i 0)) k → (j : ℕ) × (j < i) × (get_or more j 0 ≡ k)
    after i k l c = by (at i l)
      where
        by : ((i < n) × (get_or more i 0 ≡ get_or places i 0)) ⊎ ((i ≡ n) × (get_or more i 0 ≡ p)) → (j : ℕ) × (j < i) × (get_or more j 0 ≡ k)
        by (inl m) =
            let r = o.after i k m.0 (subst (λ q. Contains (row_at rows q) k) m.1 c) in
            let a = m.0 in let b = r.1 in
            (r.0, r.1, kept_below places p r.0 (omega arith) ∙ r.2)
        by (inr m) =
            let r = place_in places k (before k (subst (λ q. Contains (row_at rows q) k) m.1 c)) in
            let a = m.0 in let b = r.1 in
            (r.0, omega arith, kept_below places p r.0 r.1 ∙ r.2)

    once : (i j : ℕ) → i < j → j < length more → get_or more i 0 ≢ get_or more j 0
    once i j l m e = by (at i (omega arith)) (at j m)
      where
        by : ((i < n) × (get_or more i 0 ≡ get_or places i 0)) ⊎ ((i ≡ n) × (get_or more i 0 ≡ p)) → ((j < n) × (get_or more j 0 ≡ get_or places j 0)) ⊎ ((j ≡ n) × (get_or more j 0 ≡ p)) → ⊥
        by (inl a) (inl b) = o.once i j l b.0 (sym a.1 ∙ e ∙ b.1)
        by (inl a) (inr b) = absent (subst (Contains places) (sym a.1 ∙ e ∙ b.1) (Contains-get_or places i 0 a.0))
        by (inr a) (inl b) = let x = a.0 in let y = b.0 in absurd (omega arith)
        by (inr a) (inr b) = let x = a.0 in let y = b.0 in absurd (omega arith)

-- the flags with that of p set
pub marked_more : (rows : List (List ℕ)) (flags : List Bool) (places : List ℕ) (p : ℕ) → p < length rows → (IsSet flags p → ⊥) → AreRowsWithin rows → ((k : ℕ) → Contains (row_at rows p) k → IsSet flags k) → IsMarked rows flags places → IsMarked rows (set flags p true) (places ++ p ∷ [])
marked_more rows flags places p l unset within ready m =
    record {
      count = length-set flags p true ∙ m.count;
      each = λ q lq. by q lq (cases_eq q p);
      order = order_more rows places p l (λ k c. (m.each k (within p k c)).0 (ready k c)) (λ c. unset ((m.each p l).1 c)) m.order;
    }
  where
    fits : p < length flags
    fits = let c = m.count in omega arith

    by : (q : ℕ) → q < length rows → (q ≡ p) ⊎ (q ≢ p) → IsSet (set flags p true) q ↔ Contains (places ++ p ∷ []) q
    by q lq (inl e) = (λ _. subst (Contains (places ++ p ∷ [])) (sym e) (Contains-push places p), λ _. ap (λ j. get_or (set flags p true) j false) e ∙ get_or-set_same flags p true false fits)
    by q lq (inr ne) =
        let e = get_or-set_other flags p q true false ne in
        (λ s. Contains-append_left places (p ∷ []) q ((m.each q lq).0 (sym e ∙ s)), λ c. e ∙ (m.each q lq).1 (was (Contains-push_cases places p q c)))
      where
        was : Contains places q ⊎ (p ≡ q) → Contains places q
        was (inl c) = c
        was (inr f) = absurd (ne (sym f))

pub visit_sets : (rows : List (List ℕ)) (flags : List Bool) (p : ℕ) → p < length flags → IsVisit rows p flags (set flags p true) true
visit_sets rows flags p l = record { kept = λ q s. by q s (cases_eq q p); here = λ _. now; ready = λ _. now }
  where
    now : IsSet (set flags p true) p
    now = get_or-set_same flags p true false l

    by : (q : ℕ) → IsSet flags q → (q ≡ p) ⊎ (q ≢ p) → IsSet (set flags p true) q
    by q s (inl e) = ap (λ j. get_or (set flags p true) j false) e ∙ now
    by q s (inr ne) = get_or-set_other flags p q true false ne ∙ s

pub visit_stays : (rows : List (List ℕ)) (flags : List Bool) (p : ℕ) → IsSet flags p → IsVisit rows p flags flags true
visit_stays rows flags p s = record { kept = λ q t. t; here = λ _. s; ready = λ _. s }

pub visit_waits : (rows : List (List ℕ)) (flags : List Bool) (p : ℕ) → (((k : ℕ) → Contains (row_at rows p) k → IsSet flags k) → ⊥) → IsVisit rows p flags flags false
visit_waits rows flags p none = record { kept = λ q t. t; here = λ e. absurd (cc); ready = λ r. absurd (none r) }

pub sweep_none : (rows : List (List ℕ)) (flags : List Bool) → IsSweep rows 0 flags flags true
sweep_none rows flags = record { kept = λ q s. s; all = λ e q l. absurd (omega arith); ready = λ rank n q r s l m. absurd (omega arith) }

-- one visit more
pub sweep_more : (rows : List (List ℕ)) (p : ℕ) (old mid new : List Bool) (whole here : Bool) → p < length rows → IsSweep rows p old mid whole → IsVisit rows p mid new here → IsSweep rows (p + 1) old new (if here then whole else false)
sweep_more rows p old mid new whole here lp s v =
    record {
      kept = λ q t. v.kept q (s.kept q t);
      all = λ e q l. all here whole refl refl e q (cases_eq q p) l;
      ready = λ rank n q r below l m. ready rank n q r below (cases_eq q p) l m;
    }
  where
    all : (h w : Bool) → here ≡ h → whole ≡ w → (if h then w else false) ≡ true → (q : ℕ) → (q ≡ p) ⊎ (q ≢ p) → q < p + 1 → IsSet new q
    all true true e f g q (inl i) l = subst (IsSet new) (sym i) (v.here e)
    all true true e f g q (inr i) l = v.kept q (s.all f q (omega arith))
    all true false e f g q i l = absurd (cc)
    all false w e f g q i l = absurd (cc)

    ready : (rank : ℕ → ℕ) (n q : ℕ) → IsRowRank rows rank → AreSetBelow rows rank n old → (q ≡ p) ⊎ (q ≢ p) → q < p + 1 → rank q < n + 1 → IsSet new q
    ready rank n q r below (inl i) l m =
        subst (IsSet new) (sym i) (v.ready (λ k c. let u = r.up p k c in let a = u.1 in let e : rank q ≡ rank p = ap rank i in s.kept k (below k u.0 (omega arith))))
    ready rank n q r below (inr i) l m = v.kept q (s.ready rank n q r below (omega arith) m)

-- after a whole sweep every place one higher in rank is in the order
pub below_more : (rows : List (List ℕ)) (p : ℕ) (old new : List Bool) (whole : Bool) (rank : ℕ → ℕ) (n : ℕ) → length rows ≡ p → IsRowRank rows rank → IsSweep rows p old new whole → AreSetBelow rows rank n old → AreSetBelow rows rank (n + 1) new
below_more rows p old new whole rank n e r s below q l m = s.ready rank n q r below (omega arith) m

pub whole_from : (rows : List (List ℕ)) (flags : List Bool) (places : List ℕ) → IsMarked rows flags places → ((q : ℕ) → q < length rows → IsSet flags q) → IsWholeOrder rows places
whole_from rows flags places m all = record { order = m.order; every = λ q l. (m.each q l).0 (all q l) }

pub marked_none : (rows : List (List ℕ)) (flags : List Bool) → flags ≡ replicate (length rows) false → IsMarked rows flags []
marked_none rows flags e = record { count = ap length e ∙ length-replicate (length rows) false; each = λ p l. (λ s. absurd (yes_no (get_or flags p false) s (unset p)), λ c. let m = c.1 in absurd (omega arith)); order = record { within = λ i l. absurd (omega arith); after = λ i k l c. absurd (omega arith); once = λ i j l m. absurd (omega arith) } }
  where
    unset : (p : ℕ) → get_or flags p false ≡ false
    unset p = ap (λ (fs : List Bool). get_or fs p false) e ∙ none (length rows) p
      where
        none : (n p : ℕ) → get_or (replicate n false) p false ≡ false
        none zero zero = refl
        none zero (suc p) = refl
        none (suc n) zero = refl
        none (suc n) (suc p) = none n p

-- the numbers of a row are places
pub all_in_row : (rows : List (List ℕ)) (p : ℕ) (xs : List ℕ) (n : ℕ) → xs ≡ row_at rows p → n ≡ length rows → AreRowsWithin rows → All (λ k. k < n) xs
all_in_row rows p xs n e f within k d l =
    let c = subst (λ (ys : List ℕ). Contains ys (get_or xs k d)) e (k, l, sym (get_or_default xs k d (get_or xs k d) l)) in
    let r = within p (get_or xs k d) c in
    omega arith

-- all of a row are set
pub set_in_row : (rows : List (List ℕ)) (p : ℕ) (flags : List Bool) (xs : List ℕ) → xs ≡ row_at rows p → All (IsSet flags) xs → (k : ℕ) → Contains (row_at rows p) k → IsSet flags k
set_in_row rows p flags xs e all k c =
    let d = subst (λ (ys : List ℕ). Contains ys k) (sym e) c in
    subst (IsSet flags) d.2 (all d.0 k d.1)

pub row_all_set : (rows : List (List ℕ)) (p : ℕ) (flags : List Bool) (xs : List ℕ) → xs ≡ row_at rows p → ((k : ℕ) → Contains (row_at rows p) k → IsSet flags k) → All (IsSet flags) xs
row_all_set rows p flags xs e set k d l =
    set (get_or xs k d) (subst (λ (ys : List ℕ). Contains ys (get_or xs k d)) e (k, l, sym (get_or_default xs k d (get_or xs k d) l)))
