-- A set has one list in order, one least member and one count.
use Rattle.std.proofs.Common.{◌≡◌, ℕ, zero, suc, ◌<◌, ◌⊎◌, inl, inr, List, [], ◌∷◌, length, get_or, refl, sym, ap, ◌∙◌, arith}
use Rattle.std.specs.List.{AllPairs, Contains}
use Rattle.std.specs.List.Sorted.{IsStrictlyIncreasing}
use Rattle.std.proofs.lemmas.List.Elements.{Contains-append_right, Contains-get_or}
use Rattle.std.proofs.lemmas.List.Kept.{AllPairs-from_increasing}
use Rattle.loop_data.specs.Sets.{HasCount, IsLeast, IsListOf}

-- each number is below all later ones
abbrev Rises : List ℕ → Type 0
Rises xs = AllPairs (λ x y. x < y) xs

Rises-tail : (x : ℕ) (xs : List ℕ) → Rises (x ∷ xs) → Rises xs
Rises-tail x xs h = λ i j d below within. h (suc i) (suc j) d (omega arith) (omega arith)

above : (x : ℕ) (xs : List ℕ) (a : ℕ) → Rises (x ∷ xs) → Contains xs a → x < a
above x xs a h (k, within, is) =
    let low : x < get_or xs k a = h 0 (suc k) a (omega arith) (omega arith) in omega arith

pub in_tail : (x : ℕ) (xs : List ℕ) (a : ℕ) → Contains (x ∷ xs) a → (x ≡ a) ⊎ Contains xs a
in_tail x xs a (zero, within, is) = inl is
in_tail x xs a (suc k, within, is) = inr (k, omega arith, is)

at_head : (x : ℕ) (xs : List ℕ) → Contains (x ∷ xs) x
at_head x xs = Contains-get_or (x ∷ xs) 0 x (omega arith)

same_rising : (xs ys : List ℕ) → Rises xs → Rises ys → ((a : ℕ) → Contains xs a → Contains ys a) → ((a : ℕ) → Contains ys a → Contains xs a) → xs ≡ ys
same_rising [] [] p q f g = refl
same_rising [] (y ∷ ys) p q f g = absurd (let l = (g y (at_head y ys)).1 in omega arith)
same_rising (x ∷ xs) [] p q f g = absurd (let l = (f x (at_head x xs)).1 in omega arith)
same_rising (x ∷ xs) (y ∷ ys) p q f g =
    let first : x ≡ y = least (in_tail y ys x (f x (at_head x xs))) (in_tail x xs y (g y (at_head y ys))) in
    let rest : xs ≡ ys = same_rising xs ys (Rises-tail x xs p) (Rises-tail y ys q) (forth first) (back first) in
    λ j. first j ∷ rest j
  where
    least : (y ≡ x) ⊎ Contains ys x → (x ≡ y) ⊎ Contains xs y → x ≡ y
    least (inl e) n = sym e
    least (inr m) (inl e) = e
    least (inr m) (inr n) = absurd (let a = above y ys x q m in let b = above x xs y p n in omega arith)

    forth : x ≡ y → (a : ℕ) → Contains xs a → Contains ys a
    forth e a m = later (in_tail y ys a (f a (Contains-append_right (x ∷ []) xs a m)))
      where
        later : (y ≡ a) ⊎ Contains ys a → Contains ys a
        later (inl same) = absurd (let b = above x xs a p m in omega arith)
        later (inr n) = n

    back : x ≡ y → (a : ℕ) → Contains ys a → Contains xs a
    back e a m = later (in_tail x xs a (g a (Contains-append_right (y ∷ []) ys a m)))
      where
        later : (x ≡ a) ⊎ Contains xs a → Contains xs a
        later (inl same) = absurd (let b = above y ys a q m in omega arith)
        later (inr n) = n

-- lists in order that have the same members
pub same_members : (xs ys : List ℕ) → IsStrictlyIncreasing xs → IsStrictlyIncreasing ys → ((a : ℕ) → Contains xs a → Contains ys a) → ((a : ℕ) → Contains ys a → Contains xs a) → xs ≡ ys
same_members xs ys p q = same_rising xs ys (AllPairs-from_increasing xs p) (AllPairs-from_increasing ys q)

pub same_list : (P : ℕ → Type 0) (xs ys : List ℕ) → IsListOf P xs → IsListOf P ys → xs ≡ ys
same_list P xs ys p q = same_members xs ys p.ordered q.ordered (λ a m. q.every a (p.each a m)) (λ a m. p.every a (q.each a m))

pub same_count : (P : ℕ → Type 0) (m n : ℕ) → HasCount P m → HasCount P n → m ≡ n
same_count P m n p q = sym p.count ∙ ap length (same_list P p.members q.members p.are q.are) ∙ q.count

pub same_least : (P : ℕ → Type 0) (x y : ℕ) → IsLeast P x → IsLeast P y → x ≡ y
same_least P x y p q = let a = p.least y q.holds in let b = q.least x p.holds in omega arith
