-- Each two accesses of which one stores are listed, and only these.
use Rattle.std.proofs.Common.{◌≡◌, ℕ, zero, suc, ◌+◌, ◌<◌, ◌≤◌, ◌⊎◌, inl, inr, List, [], ◌∷◌, ◌++◌, length, Bool, true, false, ◌||◌, if◌then◌else◌, ap, sym, ◌∙◌, subst, arith, slice_index_or}
use Rattle.std.proofs.lemmas.Bool.{and_parts}
use Rattle.std.specs.List.{list_all}
use Rattle.loop_data.specs.declared.accesses.Access.{Access}
use Rattle.alias_checks.specs.Listing.{Two, Pair, row_from, rows_from, places_in}
use Rattle.alias_checks.proofs.Facts.{or_back}

-- one of a list
abbrev pub In : {X : Type 0} → List X → X → Type 0
In [] x = ⊥
In (y ∷ ys) x = (y ≡ x) ⊎ In ys x

in_left : {X : Type 0} (xs ys : List X) (x : X) → In xs x → In (xs ++ ys) x
in_left [] ys x i = absurd i
in_left (y ∷ xs) ys x (inl e) = inl e
in_left (y ∷ xs) ys x (inr i) = inr (in_left xs ys x i)

in_right : {X : Type 0} (xs ys : List X) (x : X) → In ys x → In (xs ++ ys) x
in_right [] ys x i = i
in_right (y ∷ xs) ys x i = inr (in_right xs ys x i)

pub passes_in : {X : Type 0} (test : X → Bool) (xs : List X) (x : X) → list_all test xs ≡ true → In xs x → test x ≡ true
passes_in test [] x e i = absurd i
passes_in test (y ∷ ys) x e (inl f) = ap test (sym f) ∙ (and_parts (test y) (list_all test ys) e).0
passes_in test (y ∷ ys) x e (inr j) = passes_in test ys x (and_parts (test y) (list_all test ys) e).1 j

pair_to : (i j k : ℕ) → j ≡ k → ◌≡◌ {A = Two} (i, j) (i, k)
pair_to i j k e = let f : ℕ → Two = λ n. (i, n) in ap f e

row_in : (store : Bool) (i j k : ℕ) (bs : List Access) (d : Access) → k < length bs → (store ≡ true) ⊎ ((slice_index_or bs k d).store ≡ true)
    → In {X = Two} (row_from store i j bs) (i, j + k)
row_in store i j k [] d h s = absurd (omega arith)
row_in store i j zero (b ∷ bs) d h s =
    in_left (if store || b.store then (i, j) ∷ [] else []) (row_from store i (suc j) bs) (i, j + 0) (go (store || b.store) (or_back store b.store s))
  where
    go : (t : Bool) → t ≡ true → In {X = Two} (if t then (i, j) ∷ [] else []) (i, j + 0)
    go true e = let f : j ≡ j + 0 = omega arith in inl (pair_to i j (j + 0) f)
    go false e = absurd (cc)
row_in store i j (suc k) (b ∷ bs) d h s =
    let f : suc j + k ≡ j + suc k = omega arith in
    in_right (if store || b.store then (i, j) ∷ [] else []) (row_from store i (suc j) bs) (i, j + suc k)
    (subst (λ (n : ℕ). In {X = Two} (row_from store i (suc j) bs) (i, n)) f (row_in store i (suc j) k bs d (omega arith) s))

-- the access at place k with that at place l
rows_in : (i k l : ℕ) (xs : List Access) (d : Access) → k ≤ l → l < length xs
    → ((slice_index_or xs k d).store ≡ true) ⊎ ((slice_index_or xs l d).store ≡ true) → In {X = Two} (rows_from i xs) (i + k, i + l)
rows_in i k l [] d h g s = absurd (omega arith)
rows_in i zero l (x ∷ xs) d h g s =
    let f : i ≡ i + 0 = omega arith in
    in_left (row_from x.store i i (x ∷ xs)) (rows_from (suc i) xs) (i + 0, i + l)
    (subst (λ (n : ℕ). In {X = Two} (row_from x.store i i (x ∷ xs)) (n, i + l)) f (row_in x.store i i l (x ∷ xs) d g s))
rows_in i (suc k) zero (x ∷ xs) d h g s = absurd (omega arith)
rows_in i (suc k) (suc l) (x ∷ xs) d h g s =
    let f : suc i + k ≡ i + suc k = omega arith in
    let e : suc i + l ≡ i + suc l = omega arith in
    in_right (row_from x.store i i (x ∷ xs)) (rows_from (suc i) xs) (i + suc k, i + suc l)
    (subst (λ (n : ℕ). In {X = Two} (rows_from (suc i) xs) (i + suc k, n)) e
    (subst (λ (n : ℕ). In {X = Two} (rows_from (suc i) xs) (n, suc i + l)) f (rows_in (suc i) k l xs d (omega arith) (omega arith) s)))

-- a pair with these places
pub record Found (pairs : List Pair) (i j : ℕ) : Type 0 where
  pub place : ℕ
  pub within : place < length pairs
  pub first : (d : Pair) → (slice_index_or pairs place d).0 ≡ i
  pub second : (d : Pair) → (slice_index_or pairs place d).1 ≡ j

found : (pairs : List Pair) (i j : ℕ) → In {X = Two} (places_in pairs) (i, j) → Found pairs i j
found [] i j h = absurd h
found (t ∷ ts) i j (inl e) =
    record {
      place = 0;
      within = omega arith;
      first = λ d. ap (λ (u : Two). u.0) e;
      second = λ d. ap (λ (u : Two). u.1) e;
    }
found (t ∷ ts) i j (inr h) =
    let f = found ts i j h in
    let w = f.within in
    record { place = suc f.place; within = omega arith; first = f.first; second = f.second }

pub listed : (pairs : List Pair) (xs : List Access) (i j : ℕ) (d : Access) → places_in pairs ≡ rows_from 0 xs → i ≤ j → j < length xs
    → ((slice_index_or xs i d).store ≡ true) ⊎ ((slice_index_or xs j d).store ≡ true) → Found pairs i j
listed pairs xs i j d e h g s =
    let f : 0 + i ≡ i = omega arith in
    let k : 0 + j ≡ j = omega arith in
    found pairs i j
    (subst (λ (us : List Two). In {X = Two} us (i, j)) (sym e)
    (subst (λ (n : ℕ). In {X = Two} (rows_from 0 xs) (i, n)) k
    (subst (λ (n : ℕ). In {X = Two} (rows_from 0 xs) (n, 0 + j)) f (rows_in 0 i j xs d h g s))))
