-- Members of lists that pass tests.
use Rattle.std.proofs.Common.{◌≡◌, ℕ, zero, suc, ◌+◌, ◌<◌, ◌≤◌, ◌⊎◌, inl, inr, Bool, true, false, ◌||◌, List, [], ◌∷◌, ◌++◌, length, get_or, take, Option, Some, None, refl, ap, sym, ◌∙◌, arith, cond}
use Rattle.std.specs.List.{Contains, list_any, filter, filter_map, cons_option}

-- x is one of the elements
abbrev pub Member : {X : Type 0} → List X → X → Type 0
Member [] x = ⊥
Member (y ∷ ys) x = (y ≡ x) ⊎ Member ys x

member_at : {X : Type 0} (xs : List X) (x : X) (k : ℕ) → k < length xs → get_or xs k x ≡ x → Member xs x
member_at [] x k l e = absurd (omega arith)
member_at (y ∷ ys) x zero l e = inl e
member_at (y ∷ ys) x (suc k) l e = inr (member_at ys x k (omega arith) e)

pub to_member : {X : Type 0} (xs : List X) (x : X) → Contains xs x → Member xs x
to_member xs x c = member_at xs x c.0 c.1 c.2

pub from_member : {X : Type 0} (xs : List X) (x : X) → Member xs x → Contains xs x
from_member [] x i = absurd i
from_member (y ∷ ys) x (inl e) = (0, omega arith, e)
from_member (y ∷ ys) x (inr i) = let c = from_member ys x i in (suc c.0, omega arith, c.2)

-- one of the elements passes the test
pub record Passes {X : Type 0} (test : X → Bool) (xs : List X) : Type 0 where
  pub element : X
  pub member : Member xs element
  pub passes : test element ≡ true

pub some_passes : {X : Type 0} (test : X → Bool) (xs : List X) → list_any test xs ≡ true → Passes test xs
some_passes test [] e = absurd (cc)
some_passes test (x ∷ xs) e = go (test x) refl e (some_passes test xs)
  where
    later : Passes test xs → Passes test (x ∷ xs)
    later p = record { element = p.element; member = inr p.member; passes = p.passes }

    go : (b : Bool) → test x ≡ b → (b || list_any test xs) ≡ true → (list_any test xs ≡ true → Passes test xs) → Passes test (x ∷ xs)
    go true q f rest = record { element = x; member = inl refl; passes = q }
    go false q f rest = later (rest f)

-- an element passes both tests, so that it is found by the second among those that pass the first
pub passes_among : {X : Type 0} (keep test : X → Bool) (xs : List X) (x : X) → Member xs x → keep x ≡ true → test x ≡ true → list_any test (filter keep xs) ≡ true
passes_among keep test [] x m k t = absurd m
passes_among keep test (y ∷ ys) x (inl e) k t =
    let k2 : keep y ≡ true = ap keep e ∙ k in
    let t2 : test y ≡ true = ap test e ∙ t in
    ap (λ b. list_any test (cond b (y ∷ filter keep ys) (filter keep ys))) k2 ∙ ap (λ b. b || list_any test (filter keep ys)) t2
passes_among keep test (y ∷ ys) x (inr m) k t = go (keep y) (passes_among keep test ys x m k t)
  where
    go : (b : Bool) → list_any test (filter keep ys) ≡ true → list_any test (cond b (y ∷ filter keep ys) (filter keep ys)) ≡ true
    go true e = second (test y) (list_any test (filter keep ys)) e
      where
        second : (a b : Bool) → b ≡ true → (a || b) ≡ true
        second true b f = refl
        second false b f = f
    go false e = e

-- what passes one test passes another
pub passes_too : {X : Type 0} (test other : X → Bool) (xs : List X) → ((x : X) → test x ≡ true → other x ≡ true) → list_any test xs ≡ true → list_any other xs ≡ true
passes_too test other [] f e = e
passes_too test other (x ∷ xs) f e = go (test x) refl e (passes_too test other xs f)
  where
    first : other x ≡ true → (other x || list_any other xs) ≡ true
    first q = ap (λ b. b || list_any other xs) q

    second : (a b : Bool) → b ≡ true → (a || b) ≡ true
    second true b q = refl
    second false b q = q

    go : (b : Bool) → test x ≡ b → (b || list_any test xs) ≡ true → (list_any test xs ≡ true → list_any other xs ≡ true) → (other x || list_any other xs) ≡ true
    go true q h rest = first (f x q)
    go false q h rest = second (other x) (list_any other xs) (rest h)

-- what is left by a test passes it
pub kept_passes : {X : Type 0} (test : X → Bool) (xs : List X) (x : X) → Member (filter test xs) x → test x ≡ true
kept_passes test [] x m = absurd m
kept_passes test (y ∷ ys) x m = go (test y) refl m (kept_passes test ys x)
  where
    go : (b : Bool) → test y ≡ b → Member (cond b (y ∷ filter test ys) (filter test ys)) x → (Member (filter test ys) x → test x ≡ true) → test x ≡ true
    go true q (inl e) rest = sym (ap test e) ∙ q
    go true q (inr i) rest = rest i
    go false q i rest = rest i

-- what is left by a test was there
pub kept_member : {X : Type 0} (test : X → Bool) (xs : List X) (x : X) → Member (filter test xs) x → Member xs x
kept_member test [] x m = absurd m
kept_member test (y ∷ ys) x m = go (test y) m (kept_member test ys x)
  where
    go : (b : Bool) → Member (cond b (y ∷ filter test ys) (filter test ys)) x → (Member (filter test ys) x → Member ys x) → Member (y ∷ ys) x
    go true (inl e) rest = inl e
    go true (inr i) rest = inr (rest i)
    go false i rest = inr (rest i)

-- an element that passes is found
pub any_passes : {X : Type 0} (test : X → Bool) (xs : List X) (x : X) → Member xs x → test x ≡ true → list_any test xs ≡ true
any_passes test [] x m t = absurd m
any_passes test (y ∷ ys) x (inl e) t = ap (λ b. b || list_any test ys) (ap test e ∙ t)
any_passes test (y ∷ ys) x (inr m) t = second (test y) (any_passes test ys x m t)
  where
    second : (a : Bool) → list_any test ys ≡ true → (a || list_any test ys) ≡ true
    second true e = refl
    second false e = e

-- two tests that give true together are one
pub same_test : (a b : Bool) → (a ≡ true → b ≡ true) → (b ≡ true → a ≡ true) → a ≡ b
same_test true b f g = sym (f refl)
same_test false true f g = g refl
same_test false false f g = refl

-- what a list of at most so many elements begins with
pub whole : {X : Type 0} (xs : List X) (n : ℕ) → length xs ≤ n → take n xs ≡ xs
whole [] zero l = refl
whole [] (suc n) l = refl
whole (x ∷ xs) zero l = absurd (omega arith)
whole (x ∷ xs) (suc n) l = ap (λ ys. x ∷ ys) (whole xs n (omega arith))

pub nothing_more : {X : Type 0} (xs : List X) → xs ++ [] ≡ xs
nothing_more [] = refl
nothing_more (x ∷ xs) = ap (λ ys. x ∷ ys) (nothing_more xs)

pub one_more : {X : Type 0} (xs : List X) (x : X) → length (xs ++ x ∷ []) ≡ length xs + 1
one_more [] x = refl
one_more (y ∷ ys) x = let e = one_more ys x in omega arith

-- what an element of a list that is made from others was made from
pub record Made {X Y : Type 0} (h : X → Option Y) (xs : List X) (y : Y) : Type 0 where
  pub element : X
  pub member : Member xs element
  pub is : h element ≡ Some y

pub kept_source : {X Y : Type 0} (h : X → Option Y) (xs : List X) (y : Y) → Member (filter_map h xs) y → Made h xs y
kept_source h [] y m = absurd m
kept_source {Y = Y} h (x ∷ xs) y m = go (h x) refl m (kept_source h xs y)
  where
    later : Made h xs y → Made h (x ∷ xs) y
    later r = record { element = r.element; member = inr r.member; is = r.is }

    go : (o : Option Y) → h x ≡ o → Member (cons_option o (filter_map h xs)) y → (Member (filter_map h xs) y → Made h xs y) → Made h (x ∷ xs) y
    go None e i rest = later (rest i)
    go (Some z) e (inl q) rest = record { element = x; member = inl refl; is = e ∙ ap (λ v. Some v) q }
    go (Some z) e (inr i) rest = later (rest i)
