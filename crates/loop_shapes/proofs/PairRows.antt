-- The numbers of short rows side by side.
use Rattle.std.proofs.Common.{◌≡◌, ℕ, ◌+◌, ◌<◌, ◌≤◌, ◌⊎◌, inl, inr, Option, Some, None, List, [], ◌∷◌, ◌++◌, length, get_or, refl, ap, sym, ◌∙◌, subst, arith}
use Rattle.std.specs.List.{Contains}
use Rattle.std.specs.Option.{IfSome}
use Rattle.std.proofs.lemmas.Bool.{cases_lt}
use Rattle.std.proofs.lemmas.List.{get_or_append_left, get_or_push, length_push}
use Rattle.loop_data.proofs.Lists.{In, to_in, from_in}
use Rattle.loop_data.specs.Flows.{row_at}
use Rattle.loop_shapes.specs.Search.{IsPair, ArePairs}

-- a row of one number, and one of two
pub pair_one : (row : List ℕ) (a : ℕ) → length row ≡ 1 → get_or row 0 0 ≡ a → IsPair row a a
pair_one [] a n e x = absurd (omega arith)
pair_one (y ∷ []) a n e x = (λ c. from_in (a ∷ a ∷ []) x (there (to_in (y ∷ []) x c)), λ c. from_in (y ∷ []) x (back (to_in (a ∷ a ∷ []) x c)))
  where
    there : In (y ∷ []) x → In (a ∷ a ∷ []) x
    there (inl f) = inl (sym e ∙ f)
    there (inr i) = absurd i

    back : In (a ∷ a ∷ []) x → In (y ∷ []) x
    back (inl f) = inl (e ∙ f)
    back (inr (inl f)) = inl (e ∙ f)
    back (inr (inr i)) = absurd i
pair_one (y ∷ z ∷ zs) a n e x = absurd (omega arith)

pub pair_two : (row : List ℕ) (a b : ℕ) → length row ≡ 2 → get_or row 0 0 ≡ a → get_or row 1 0 ≡ b → IsPair row a b
pair_two [] a b n e f x = absurd (omega arith)
pair_two (y ∷ []) a b n e f x = absurd (omega arith)
pair_two (y ∷ z ∷ []) a b n e f x = (subst (λ (v : ℕ). Contains (y ∷ z ∷ []) x → Contains (v ∷ b ∷ []) x) e (subst (λ (v : ℕ). Contains (y ∷ z ∷ []) x → Contains (y ∷ v ∷ []) x) f (λ c. c)), subst (λ (v : ℕ). Contains (v ∷ b ∷ []) x → Contains (y ∷ z ∷ []) x) e (subst (λ (v : ℕ). Contains (y ∷ v ∷ []) x → Contains (y ∷ z ∷ []) x) f (λ c. c)))
pair_two (y ∷ z ∷ w ∷ ws) a b n e f x = absurd (omega arith)

-- the pairs of the rows before one
pub record ArePairsBelow (rows : List (List ℕ)) (n : ℕ) (pairs : List (Option (ℕ × ℕ))) : Type 0 where
  pub count : length pairs ≡ n
  pub each : (i : ℕ) → i < n → (p : ℕ × ℕ) → get_or pairs i None ≡ Some p → IsPair (row_at rows i) p.0 p.1

pub pairs_none : (rows : List (List ℕ)) (pairs : List (Option (ℕ × ℕ))) → pairs ≡ [] → ArePairsBelow rows 0 pairs
pairs_none rows pairs e = record { count = ap length e; each = λ i l. absurd (omega arith) }

some_of : (row : List ℕ) (o : Option (ℕ × ℕ)) (p : ℕ × ℕ) → o ≡ Some p → IfSome o (λ q. IsPair row q.0 q.1) → IsPair row p.0 p.1
some_of row o p e f = subst (λ (v : Option (ℕ × ℕ)). IfSome v (λ q. IsPair row q.0 q.1)) e f

pub pairs_push : (rows : List (List ℕ)) (n : ℕ) (old new : List (Option (ℕ × ℕ))) (o : Option (ℕ × ℕ)) → new ≡ old ++ o ∷ [] → IfSome o (λ q. IsPair (row_at rows n) q.0 q.1) → ArePairsBelow rows n old → ArePairsBelow rows (n + 1) new
pairs_push rows n old new o e f a = subst (ArePairsBelow rows (n + 1)) (sym e) (record { count = length_push old o ∙ ap (λ m. m + 1) a.count; each = λ i l. by i l (cases_lt i n) })
  where
    by : (i : ℕ) → i < n + 1 → (i < n) ⊎ (n ≤ i) → (p : ℕ × ℕ) → get_or (old ++ o ∷ []) i None ≡ Some p → IsPair (row_at rows i) p.0 p.1
    by i l (inl m) p q = let c = a.count in a.each i m p (sym (get_or_append_left old (o ∷ []) None i (omega arith)) ∙ q)
    by i l (inr m) p q =
        let same : n ≡ i = omega arith in
        subst (λ (j : ℕ). IsPair (row_at rows j) p.0 p.1) same (some_of (row_at rows n) o p (sym (get_or_push old o None i (a.count ∙ same)) ∙ q) f)

pub pairs_all : (rows : List (List ℕ)) (n : ℕ) (pairs : List (Option (ℕ × ℕ))) → n ≡ length rows → ArePairsBelow rows n pairs → ArePairs rows pairs
pairs_all rows n pairs e a = record { count = a.count ∙ e; each = λ i l. a.each i (subst (λ (m : ℕ). i < m) a.count l) }

-- the first of a pair is among the row, and so is the second
pub first_in : (row : List ℕ) (a b : ℕ) → IsPair row a b → Contains row a
first_in row a b p = (p a).1 (from_in (a ∷ b ∷ []) a (inl refl))

pub second_in : (row : List ℕ) (a b : ℕ) → IsPair row a b → Contains row b
second_in row a b p = (p b).1 (from_in (a ∷ b ∷ []) b (inr (inl refl)))
