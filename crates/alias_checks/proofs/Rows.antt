-- Pairs of accesses, row by row.
use Rattle.std.proofs.Common.{◌≡◌, ℕ, zero, suc, ◌+◌, ◌<◌, List, [], ◌∷◌, ◌++◌, length, drop, Bool, ◌||◌, refl, ap, sym, ◌∙◌, arith, add-one, append_assoc, slice_index_or, if◌then◌else◌}
use Rattle.loop_data.specs.declared.accesses.Access.{Access}
use Rattle.alias_checks.specs.Listing.{Two, row_from, rows_from, stores_at}

pub stores_at-nth : (xs : List Access) (i : ℕ) (d : Access) → i < length xs → (slice_index_or xs i d).store ≡ stores_at xs i
stores_at-nth [] i d h = absurd (omega arith)
stores_at-nth (x ∷ xs) zero d h = refl
stores_at-nth (x ∷ xs) (suc i) d h = stores_at-nth xs i d (omega arith)

-- the pair of two places, if one of them stores
abbrev pub pair_if : Bool → ℕ → ℕ → List Two
pair_if b i j = if b then (i, j) ∷ [] else []

row_next : (store : Bool) (i j k : ℕ) (xs : List Access) → k < length xs
    → row_from store i j (drop k xs) ≡ pair_if (store || stores_at xs k) i j ++ row_from store i (suc j) (drop (suc k) xs)
row_next store i j k [] h = absurd (omega arith)
row_next store i j zero (x ∷ xs) h = refl
row_next store i j (suc k) (x ∷ xs) h = row_next store i j k xs (omega arith)

rows_next : (i k : ℕ) (xs : List Access) → k < length xs
    → rows_from i (drop k xs) ≡ row_from (stores_at xs k) i i (drop k xs) ++ rows_from (suc i) (drop (suc k) xs)
rows_next i k [] h = absurd (omega arith)
rows_next i zero (x ∷ xs) h = refl
rows_next i (suc k) (x ∷ xs) h = rows_next i k xs (omega arith)

-- what is listed grows by what the rest loses
pub row_more : (store : Bool) (i j : ℕ) (xs : List Access) (old new all : List Two) → j < length xs → new ≡ old ++ pair_if (store || stores_at xs j) i j
    → old ++ row_from store i j (drop j xs) ≡ all → new ++ row_from store i (j + 1) (drop (j + 1) xs) ≡ all
row_more store i j xs old new all h e p =
    rw add-one
    (ap (λ ys. ys ++ row_from store i (suc j) (drop (suc j) xs)) e
    ∙ append_assoc old (pair_if (store || stores_at xs j) i j) (row_from store i (suc j) (drop (suc j) xs))
    ∙ ap (λ ys. old ++ ys) (sym (row_next store i j j xs h)) ∙ p)

pub rows_more : (i : ℕ) (xs : List Access) (old new all : List Two) → i < length xs → new ≡ old ++ row_from (stores_at xs i) i i (drop i xs)
    → old ++ rows_from i (drop i xs) ≡ all → new ++ rows_from (i + 1) (drop (i + 1) xs) ≡ all
rows_more i xs old new all h e p =
    rw add-one
    (ap (λ ys. ys ++ rows_from (suc i) (drop (suc i) xs)) e
    ∙ append_assoc old (row_from (stores_at xs i) i i (drop i xs)) (rows_from (suc i) (drop (suc i) xs))
    ∙ ap (λ ys. old ++ ys) (sym (rows_next i i xs h)) ∙ p)
