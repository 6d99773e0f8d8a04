-- The first place at which two lists differ.
use Rattle.std.proofs.Common.{◌≡◌, ◌≢◌, ◌==◌, ℕ, zero, suc, ◌<◌, min, List, [], ◌∷◌, length, get_or, Bool, true, false, Option, Some, None, refl, ap, ◌∙◌, arith}
use Rattle.std.proofs.lemmas.Bool.Decides.{nat_tests}
use Rattle.rewriter.specs.Admission.{first_difference, one_more}

-- the items before a place are the same
abbrev pub SameBefore : ℕ → List ℕ → List ℕ → Type 0
SameBefore i xs ys = (k : ℕ) → k < i → get_or xs k 0 ≡ get_or ys k 0

heads_same : (x y : ℕ) (xs ys : List ℕ) → x ≡ y → first_difference (x ∷ xs) (y ∷ ys) ≡ one_more (first_difference xs ys)
heads_same x y xs ys e = let t : (x == y) ≡ true = grind (arith, nat_tests) in rw t refl

heads_differ : (x y : ℕ) (xs ys : List ℕ) → x ≢ y → first_difference (x ∷ xs) (y ∷ ys) ≡ Some 0
heads_differ x y xs ys ne = let t : (x == y) ≡ false = grind (arith, nat_tests) in rw t refl

-- the first items that differ
pub first_at : (i : ℕ) (xs ys : List ℕ) → SameBefore i xs ys → i < length xs → i < length ys → get_or xs i 0 ≢ get_or ys i 0 → first_difference xs ys ≡ Some i
first_at i [] ys same h k ne = absurd (omega arith)
first_at i (x ∷ xs) [] same h k ne = absurd (omega arith)
first_at zero (x ∷ xs) (y ∷ ys) same h k ne = heads_differ x y xs ys ne
first_at (suc i) (x ∷ xs) (y ∷ ys) same h k ne =
    heads_same x y xs ys (same 0 (omega arith))
    ∙ ap one_more (first_at i xs ys (λ j l. same (suc j) (omega arith)) (omega arith) (omega arith) ne)

-- the end of both
pub first_none : (xs ys : List ℕ) → SameBefore (length xs) xs ys → length xs ≡ length ys → first_difference xs ys ≡ None
first_none [] [] same e = refl
first_none [] (y ∷ ys) same e = absurd (omega arith)
first_none (x ∷ xs) [] same e = absurd (omega arith)
first_none (x ∷ xs) (y ∷ ys) same e =
    heads_same x y xs ys (same 0 (omega arith))
    ∙ ap one_more (first_none xs ys (λ j l. same (suc j) (omega arith)) (omega arith))

-- the end of the shorter
pub first_end : (n : ℕ) (xs ys : List ℕ) → n ≡ min (length xs) (length ys) → SameBefore n xs ys → length xs ≢ length ys → first_difference xs ys ≡ Some n
first_end n [] [] e same ne = absurd (ne refl)
first_end n [] (y ∷ ys) e same ne = let z : n ≡ 0 = omega arith in rw z refl
first_end n (x ∷ xs) [] e same ne = let z : n ≡ 0 = omega arith in rw z refl
first_end zero (x ∷ xs) (y ∷ ys) e same ne = absurd (omega arith)
first_end (suc n) (x ∷ xs) (y ∷ ys) e same ne =
    heads_same x y xs ys (same 0 (omega arith))
    ∙ ap one_more (first_end n xs ys (omega arith) (λ j l. same (suc j) (omega arith)) (λ f. ne (omega arith)))

-- ---- no difference

step_none : (x y : ℕ) (xs ys : List ℕ) (b : Bool) → (x == y) ≡ b → first_difference (x ∷ xs) (y ∷ ys) ≡ None → (x ≡ y) × (first_difference xs ys ≡ None)
step_none x y xs ys true t e = (grind (arith, nat_tests), one_more_none (first_difference xs ys) (rw t at e))
  where
    one_more_none : (o : Option ℕ) → one_more o ≡ None → o ≡ None
    one_more_none None e = refl
    one_more_none (Some k) e = cc
step_none x y xs ys false t e = let f = rw t at e in cc

-- lists without a difference are equal
pub none_same : (xs ys : List ℕ) → first_difference xs ys ≡ None → xs ≡ ys
none_same [] [] e = refl
none_same [] (y ∷ ys) e = cc
none_same (x ∷ xs) [] e = cc
none_same (x ∷ xs) (y ∷ ys) e =
    let both = step_none x y xs ys (x == y) refl e in
    let rest = none_same xs ys both.1 in
    let head = both.0 in
    cc

-- nor has a list one to itself
pub same_none : (xs : List ℕ) → first_difference xs xs ≡ None
same_none xs = first_none xs xs (λ k l. refl) refl
