-- Pairs of accesses, one after the other.
use Rattle.std.proofs.Common.{◌≡◌, ℕ, ◌<◌, ◌≤◌, ◌+◌, ◌⊎◌, inl, inr, ◌↔◌, Bool, true, false, ◌||◌, List, length, get_or, refl, sym, subst, arith}
use Rattle.std.proofs.lemmas.Option.{slice_get_read, slice_get_within}
use Rattle.std.proofs.lemmas.Bool.{cases_lt}
use Rattle.loop_data.specs.declared.accesses.Access.{Access}
use Rattle.dependence_tests.specs.Separation.{AreHopeless}
use Rattle.loop_choice.specs.Pairs.{IsHopelessPair, AreHopelessWithStore, IsFirstFrom, IsFirstHopelessPair, HasNoHopelessPair}

pub told : (a b : Access) (r : Bool) → (a.store || b.store) ≡ true → (r ≡ true) ↔ AreHopeless a b → (r ≡ true) ↔ AreHopelessWithStore a b
told a b r stores p = (λ h. record { stores = stores; hopeless = p.0 h }, λ w. p.1 w.hopeless)

pub not_told : (a b : Access) (r : Bool) → (a.store || b.store) ≡ false → r ≡ false → (r ≡ true) ↔ AreHopelessWithStore a b
not_told a b r e f = (λ h. absurd (cc), λ w. let s = w.stores in absurd (cc))

-- a place is below another or is it, and of two places one is below the other or they are one
pub up_to : (k n : ℕ) → k ≤ n → (k < n) ⊎ (k ≡ n)
up_to k n l = go (cases_lt k n)
  where
    go : (k < n) ⊎ (n ≤ k) → (k < n) ⊎ (k ≡ n)
    go (inl a) = inl a
    go (inr b) = inr (omega arith)

pub three : (p q : ℕ) → (p < q) ⊎ ((q < p) ⊎ (p ≡ q))
three p q = go (cases_lt p q)
  where
    by : q ≤ p → (q < p) ⊎ (q ≡ p) → (p < q) ⊎ ((q < p) ⊎ (p ≡ q))
    by l (inl a) = inr (inl a)
    by l (inr e) = inr (inr (sym e))

    go : (p < q) ⊎ (q ≤ p) → (p < q) ⊎ ((q < p) ⊎ (p ≡ q))
    go (inl a) = inl a
    go (inr b) = by b (up_to q p b)

-- the accesses at two places are these
pub is_pair : (list : List Access) (i j : ℕ) (a b : Access) → i ≤ j → j < length list → a ≡ get_or list i a → b ≡ get_or list j b
    → AreHopelessWithStore a b → IsHopelessPair list i j
is_pair list i j a b o l p q w = record {
  first = a;
  second = b;
  at_first = slice_get_read list (length list) i a refl (omega arith) p;
  at_second = slice_get_read list (length list) j b refl l q;
  order = o;
  stores = w.stores;
  hopeless = w.hopeless;
}

pub no_pair : (list : List Access) (i j : ℕ) (a b : Access) → i ≤ j → j < length list → a ≡ get_or list i a → b ≡ get_or list j b
    → ¬ AreHopelessWithStore a b → ¬ IsHopelessPair list i j
no_pair list i j a b o l p q apart h =
    let x = slice_get_read list (length list) i a refl (omega arith) p in
    let y = slice_get_read list (length list) j b refl l q in
    let f = h.at_first in
    let g = h.at_second in
    let s : h.first ≡ a = cc in
    let t : h.second ≡ b = cc in
    apart (subst (λ (c : Access). AreHopelessWithStore c b) s (subst (AreHopelessWithStore h.first) t (record { stores = h.stores; hopeless = h.hopeless })))

-- ---- the first in a row

abbrev pub NoneBelow : List Access → ℕ → ℕ → Type 0
NoneBelow list i j = (k : ℕ) → k < j → ¬ IsHopelessPair list i k

pub none_before : (list : List Access) (i : ℕ) → NoneBelow list i i
none_before list i k l h = let o = h.order in omega arith

pub one_more : (list : List Access) (i j : ℕ) → NoneBelow list i j → ¬ IsHopelessPair list i j → NoneBelow list i (j + 1)
one_more list i j none apart k l h = go (cases k j (omega arith))
  where
    cases : (k j : ℕ) → k ≤ j → (k < j) ⊎ (k ≡ j)
    cases k j le = up_to k j le

    go : (k < j) ⊎ (k ≡ j) → ⊥
    go (inl lt) = none k lt h
    go (inr e) = apart (subst (IsHopelessPair list i) e h)

pub first_in_row : (list : List Access) (i j : ℕ) → NoneBelow list i j → IsHopelessPair list i j → IsFirstFrom list i j
first_in_row list i j none pair = record { pair = pair; least = least }
  where
    least : (l : ℕ) → IsHopelessPair list i l → j ≤ l
    least l h = by (cases_lt l j)
      where
        by : (l < j) ⊎ (j ≤ l) → j ≤ l
        by (inr le) = le
        by (inl lt) = absurd (none l lt h)

pub none_in_row : (list : List Access) (i j : ℕ) → length list ≤ j → NoneBelow list i j → (k : ℕ) → ¬ IsHopelessPair list i k
none_in_row list i j le none k h =
    let l = slice_get_within list k h.second h.at_second in
    none k (omega arith) h

-- ---- the first of all

abbrev pub NoneAbove : List Access → ℕ → Type 0
NoneAbove list i = (k l : ℕ) → k < i → ¬ IsHopelessPair list k l

pub row_more : (list : List Access) (i : ℕ) → NoneAbove list i → ((l : ℕ) → ¬ IsHopelessPair list i l) → NoneAbove list (i + 1)
row_more list i none apart k l lt h = go (cases k i (omega arith))
  where
    cases : (k i : ℕ) → k ≤ i → (k < i) ⊎ (k ≡ i)
    cases k i le = up_to k i le

    go : (k < i) ⊎ (k ≡ i) → ⊥
    go (inl less) = none k l less h
    go (inr e) = apart l (subst (λ m. IsHopelessPair list m l) e h)

pub first_of_all : (list : List Access) (i j : ℕ) → NoneAbove list i → IsFirstFrom list i j → IsFirstHopelessPair list i j
first_of_all list i j none row = record { pair = row.pair; least = least }
  where
    least : (k l : ℕ) → IsHopelessPair list k l → (i < k) ⊎ ((i ≡ k) × (j ≤ l))
    least k l h = by (three k i)
      where
        by : (k < i) ⊎ ((i < k) ⊎ (k ≡ i)) → (i < k) ⊎ ((i ≡ k) × (j ≤ l))
        by (inl lt) = absurd (none k l lt h)
        by (inr (inl gt)) = inl gt
        by (inr (inr e)) = inr (sym e, row.least l (subst (λ m. IsHopelessPair list m l) e h))

pub none_of_all : (list : List Access) (i : ℕ) → length list ≤ i → NoneAbove list i → HasNoHopelessPair list
none_of_all list i le none k l h =
    let w = slice_get_within list k h.first h.at_first in
    none k l (omega arith) h

-- ---- steps of the search

pub row_next : (list : List Access) (i j : ℕ) (a b : Access) (r : Bool) → i ≤ j → j < length list → a ≡ get_or list i a → b ≡ get_or list j b
    → (r ≡ true) ↔ AreHopelessWithStore a b → r ≡ false → NoneBelow list i j → NoneBelow list i (j + 1)
row_next list i j a b r o l p q is f none = one_more list i j none (no_pair list i j a b o l p q (λ w. let t = is.1 w in absurd (cc)))

pub row_found : (list : List Access) (i j : ℕ) (a b : Access) (r : Bool) → i ≤ j → j < length list → a ≡ get_or list i a → b ≡ get_or list j b
    → (r ≡ true) ↔ AreHopelessWithStore a b → r ≡ true → NoneBelow list i j → IsFirstFrom list i j
row_found list i j a b r o l p q is t none = first_in_row list i j none (is_pair list i j a b o l p q (is.0 t))

-- where the first pair stands
pub first_within : (list : List Access) (i j : ℕ) → IsFirstHopelessPair list i j → (i < length list) × (j < length list)
first_within list i j f =
    let p = f.pair in
    (slice_get_within list i p.first p.at_first, slice_get_within list j p.second p.at_second)
