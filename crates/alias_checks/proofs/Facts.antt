-- Tests and the facts that they decide.
use Rattle.std.proofs.Common.{◌≡◌, ℕ, zero, suc, ◌<◌, ◌≤◌, ◌⊎◌, inl, inr, List, [], ◌∷◌, length, Bool, true, false, not, ◌&&◌, ◌||◌, ◌==◌, nat_le, nat_lt, refl, ap, ◌∙◌, arith, ℤ, ◌≤ℤ◌, ◌<ℤ◌, int_lt, slice_index_or}
use Rattle.std.specs.Prelude.{int_le}
use Rattle.std.proofs.lemmas.Int.{ints}
use Rattle.std.proofs.lemmas.Bool.Decides.{nat_tests}
use Rattle.std.specs.List.{All, Contains, list_all, list_any}
use Rattle.dependence_tests.specs.PairTests.{are_disjoint}
use Rattle.dependence_tests.specs.Separation.{AreDisjoint}
use Rattle.alias_checks.specs.Areas.{Range}
use Rattle.alias_checks.proofs.Elements.{each_passes}

pub both : (a b : Bool) → a ≡ true → b ≡ true → (a && b) ≡ true
both a b e f = rw (e, f) refl

pub lt_forth : (m n : ℕ) → nat_lt m n ≡ true → m < n
lt_forth m n e = grind (arith, nat_tests)

pub lt_back : (m n : ℕ) → m < n → nat_lt m n ≡ true
lt_back m n h = grind (arith, nat_tests)

pub le_forth : (m n : ℕ) → nat_le m n ≡ true → m ≤ n
le_forth m n e = grind (arith, nat_tests)

pub le_back : (m n : ℕ) → m ≤ n → nat_le m n ≡ true
le_back m n h = grind (arith, nat_tests)

pub zero_forth : (n : ℕ) → (n == 0) ≡ true → n ≡ 0
zero_forth n e = grind (arith, nat_tests)

pub zero_back : (n : ℕ) → n ≡ 0 → (n == 0) ≡ true
zero_back n e = grind (arith, nat_tests)

pub int_le_forth : (x y : ℤ) → int_le x y ≡ true → x ≤ℤ y
int_le_forth x y e = grind (arith, ints)

pub int_le_back : (x y : ℤ) → x ≤ℤ y → int_le x y ≡ true
int_le_back x y h = grind (arith, ints)

pub int_lt_forth : (x y : ℤ) → int_lt x y ≡ true → x <ℤ y
int_lt_forth x y e = grind (arith, ints)

pub int_lt_back : (x y : ℤ) → x <ℤ y → int_lt x y ≡ true
int_lt_back x y h = grind (arith, ints)

not_below : (x y : ℤ) → not (int_lt y x) ≡ true → x ≤ℤ y
not_below x y e = go (int_lt y x) refl e
  where
    go : (b : Bool) → int_lt y x ≡ b → not b ≡ true → x ≤ℤ y
    go true f h = absurd (cc)
    go false f h = grind (arith, ints)

at_most_not : (x y : ℤ) → x ≤ℤ y → not (int_lt y x) ≡ true
at_most_not x y h = let f : int_lt y x ≡ false = grind (arith, ints) in rw f refl

pub or_forth : (a b : Bool) → (a || b) ≡ true → (a ≡ true) ⊎ (b ≡ true)
or_forth true b e = inl refl
or_forth false b e = inr e

pub or_back : (a b : Bool) → (a ≡ true) ⊎ (b ≡ true) → (a || b) ≡ true
or_back true b h = refl
or_back false b (inl e) = absurd (cc)
or_back false b (inr e) = e

pub disjoint_forth : (p q : Range) → are_disjoint p q ≡ true → AreDisjoint p q
disjoint_forth p q e = go (or_forth _ _ e)
  where
    go : (not (int_lt q.0 p.1) ≡ true) ⊎ (not (int_lt p.0 q.1) ≡ true) → AreDisjoint p q
    go (inl f) = inl (not_below p.1 q.0 f)
    go (inr f) = inr (not_below q.1 p.0 f)

pub disjoint_back : (p q : Range) → AreDisjoint p q → are_disjoint p q ≡ true
disjoint_back p q (inl h) = or_back (not (int_lt q.0 p.1)) (not (int_lt p.0 q.1)) (inl (at_most_not p.1 q.0 h))
disjoint_back p q (inr h) = or_back (not (int_lt q.0 p.1)) (not (int_lt p.0 q.1)) (inr (at_most_not q.1 p.0 h))

-- unless the one is so, the other is
pub unless_forth : (a b : Bool) → (not a || b) ≡ true → a ≡ true → b ≡ true
unless_forth true b e h = e
unless_forth false b e h = absurd (cc)

pub unless_back : (a b : Bool) → (a ≡ true → b ≡ true) → (not a || b) ≡ true
unless_back true b h = h refl
unless_back false b h = refl

-- what holds of each element by a test
pub all_forth : {X : Type 0} (test : X → Bool) (P : X → Type 0) (xs : List X) → ((x : X) → test x ≡ true → P x) → list_all test xs ≡ true → All P xs
all_forth test P xs f e k d h = f (slice_index_or xs k d) (each_passes test xs k d e h)

pub all_back : {X : Type 0} (test : X → Bool) (P : X → Type 0) (xs : List X) → ((x : X) → P x → test x ≡ true) → All P xs → list_all test xs ≡ true
all_back test P [] f a = refl
all_back test P (x ∷ xs) f a =
    both (test x) (list_all test xs) (f x (a 0 x (omega arith)))
    (all_back test P xs f (λ k d h. a (suc k) d (omega arith)))

pub contains_later : {X : Type 0} (y : X) (xs : List X) (x : X) → Contains xs x → Contains (y ∷ xs) x
contains_later y xs x c = let h = c.1 in (suc c.0, omega arith, c.2)

pub any_forth : {X : Type 0} (test : X → Bool) (xs : List X) → list_any test xs ≡ true → (x : X) × Contains xs x × (test x ≡ true)
any_forth test [] e = absurd (cc)
any_forth {X = X} test (x ∷ xs) e = go (or_forth (test x) (list_any test xs) e) (any_forth test xs)
  where
    go : (test x ≡ true) ⊎ (list_any test xs ≡ true) → (list_any test xs ≡ true → (y : X) × Contains xs y × (test y ≡ true)) → (y : X) × Contains (x ∷ xs) y × (test y ≡ true)
    go (inl f) later = (x, (0, omega arith, refl), f)
    go (inr f) later = let p = later f in (p.0, contains_later x xs p.0 p.1, p.2)

pub any_back : {X : Type 0} (test : X → Bool) (xs : List X) (x : X) (k : ℕ) → k < length xs → slice_index_or xs k x ≡ x → test x ≡ true → list_any test xs ≡ true
any_back test [] x k h e t = absurd (omega arith)
any_back test (y ∷ ys) x zero h e t = or_back (test y) (list_any test ys) (inl (ap test e ∙ t))
any_back test (y ∷ ys) x (suc k) h e t = or_back (test y) (list_any test ys) (inr (any_back test ys x k (omega arith) e t))
