-- What the words of a list that pass a test agree on.
use Rattle.std.proofs.Common.{◌≡◌, ◌↔◌, ℕ, ◌⊎◌, inl, inr, ◌==◌, ◌&&◌, Bool, true, false, if◌then◌else◌, List, [], ◌∷◌, Option, Some, None, refl, ap, sym, ◌∙◌, subst}
use Rattle.loop_data.specs.Nests.{has}
use Rattle.loop_data.proofs.Tests.{eq_of, is_eq, and_true, true_and}

has_cases : (y : ℕ) (ys : List ℕ) (x : ℕ) → has (y ∷ ys) x ≡ true → (y ≡ x) ⊎ (has ys x ≡ true)
has_cases y ys x h = go (y == x) refl h
  where
    go : (b : Bool) → (y == x) ≡ b → (if b then true else has ys x) ≡ true → (y ≡ x) ⊎ (has ys x ≡ true)
    go true e h = inl (eq_of y x e)
    go false e h = inr h

has_here : (y : ℕ) (ys : List ℕ) → has (y ∷ ys) y ≡ true
has_here y ys = ap (λ b. if b then true else has ys y) (is_eq y y refl)

has_later : (y : ℕ) (ys : List ℕ) (x : ℕ) → has ys x ≡ true → has (y ∷ ys) x ≡ true
has_later y ys x h = go (y == x)
  where
    go : (b : Bool) → (if b then true else has ys x) ≡ true
    go true = refl
    go false = h

module _ {A : Type 0} (equals : Option A → Option A → Bool) (is_same : (o p : Option A) → equals o p ≡ true → o ≡ p) (is_self : (o : Option A) → equals o o ≡ true) where
  -- what the words that pass a test agree on, if they do
  abbrev first_of : (ℕ → Bool) → (ℕ → Option A) → List ℕ → Option A
  first_of test val [] = None
  first_of test val (u ∷ us) = if test u then val u else first_of test val us

  abbrev agree : (ℕ → Bool) → (ℕ → Option A) → Option A → List ℕ → Bool
  agree test val o [] = true
  agree test val o (u ∷ us) = if test u then equals (val u) o && agree test val o us else agree test val o us

  abbrev pub meet : (ℕ → Bool) → (ℕ → Option A) → List ℕ → Option A
  meet test val us = if agree test val (first_of test val us) us then first_of test val us else None

  agreed : (test : ℕ → Bool) (val : ℕ → Option A) (o : Option A) (us : List ℕ) → agree test val o us ≡ true
      → (u : ℕ) → has us u ≡ true → test u ≡ true → val u ≡ o
  agreed test val o [] e u h t = absurd (cc)
  agreed test val o (x ∷ xs) e u h t = go (test x) refl e (has_cases x xs u h) (λ f g. agreed test val o xs f u g t)
    where
      go : (b : Bool) → test x ≡ b → (if b then equals (val x) o && agree test val o xs else agree test val o xs) ≡ true
          → (x ≡ u) ⊎ (has xs u ≡ true) → (agree test val o xs ≡ true → has xs u ≡ true → val u ≡ o) → val u ≡ o
      go true f e (inl q) later =
          subst (λ z. val z ≡ o) q (is_same (val x) o (and_true (equals (val x) o) (agree test val o xs) e).0)
      go true f e (inr q) later = later (and_true (equals (val x) o) (agree test val o xs) e).1 q
      go false f e (inl q) later = let t2 = subst (λ z. test z ≡ false) q f in absurd (cc)
      go false f e (inr q) later = later e q

  agree_all : (test : ℕ → Bool) (val : ℕ → Option A) (o : Option A) (us : List ℕ)
      → ((u : ℕ) → has us u ≡ true → test u ≡ true → val u ≡ o) → agree test val o us ≡ true
  agree_all test val o [] all = refl
  agree_all test val o (x ∷ xs) all = go (test x) refl (agree_all test val o xs (λ u h. all u (has_later x xs u h)))
    where
      go : (b : Bool) → test x ≡ b → agree test val o xs ≡ true
          → (if b then equals (val x) o && agree test val o xs else agree test val o xs) ≡ true
      go true f rest =
          true_and (equals (val x) o) (agree test val o xs)
          (subst (λ y. equals y o ≡ true) (sym (all x (has_here x xs) f)) (is_self o)) rest
      go false f rest = rest

  first_some : (test : ℕ → Bool) (val : ℕ → Option A) (o : Option A) (us : List ℕ)
      → ((u : ℕ) → has us u ≡ true → test u ≡ true → val u ≡ o) → (w : ℕ) → has us w ≡ true → test w ≡ true
      → first_of test val us ≡ o
  first_some test val o [] all w h t = absurd (cc)
  first_some test val o (x ∷ xs) all w h t = go (test x) refl (has_cases x xs w h) (λ g. first_some test val o xs (λ u k. all u (has_later x xs u k)) w g t)
    where
      go : (b : Bool) → test x ≡ b → (x ≡ w) ⊎ (has xs w ≡ true) → (has xs w ≡ true → first_of test val xs ≡ o)
          → (if b then val x else first_of test val xs) ≡ o
      go true f c later = all x (has_here x xs) f
      go false f (inl q) later = let t2 = subst (λ z. test z ≡ false) q f in absurd (cc)
      go false f (inr q) later = later q

  -- where one word passes, the meet is what all that pass have
  pub met : (test : ℕ → Bool) (val : ℕ → Option A) (us : List ℕ) (w : ℕ) → has us w ≡ true → test w ≡ true → (x : A)
      → (meet test val us ≡ Some x) ↔ ((u : ℕ) → has us u ≡ true → test u ≡ true → val u ≡ Some x)
  met test val us w hw tw x = (forth (agree test val (first_of test val us) us) refl, back)
    where
      forth : (b : Bool) → agree test val (first_of test val us) us ≡ b
          → (if b then first_of test val us else None) ≡ Some x → (u : ℕ) → has us u ≡ true → test u ≡ true → val u ≡ Some x
      forth true e is u h t = agreed test val (first_of test val us) us e u h t ∙ is
      forth false e is u h t = absurd (cc)

      back : ((u : ℕ) → has us u ≡ true → test u ≡ true → val u ≡ Some x) → meet test val us ≡ Some x
      back all =
          let first = first_some test val (Some x) us all w hw tw in
          ap (λ o. if agree test val o us then o else None) first
          ∙ ap (λ b. if b then Some x else None) (agree_all test val (Some x) us all)

  -- it depends on the words that pass alone
  agree_same : (test : ℕ → Bool) (one other : ℕ → Option A) (o : Option A) (us : List ℕ)
      → ((u : ℕ) → has us u ≡ true → test u ≡ true → one u ≡ other u) → agree test one o us ≡ agree test other o us
  agree_same test one other o [] same = refl
  agree_same test one other o (x ∷ xs) same = go (test x) refl (agree_same test one other o xs (λ u h. same u (has_later x xs u h)))
    where
      go : (b : Bool) → test x ≡ b → agree test one o xs ≡ agree test other o xs
          → (if b then equals (one x) o && agree test one o xs else agree test one o xs)
          ≡ (if b then equals (other x) o && agree test other o xs else agree test other o xs)
      go true f rest =
          ap (λ y. equals y o && agree test one o xs) (same x (has_here x xs) f)
          ∙ ap (λ b. equals (other x) o && b) rest
      go false f rest = rest

  first_same : (test : ℕ → Bool) (one other : ℕ → Option A) (us : List ℕ)
      → ((u : ℕ) → has us u ≡ true → test u ≡ true → one u ≡ other u) → first_of test one us ≡ first_of test other us
  first_same test one other [] same = refl
  first_same test one other (x ∷ xs) same = go (test x) refl (first_same test one other xs (λ u h. same u (has_later x xs u h)))
    where
      go : (b : Bool) → test x ≡ b → first_of test one xs ≡ first_of test other xs
          → (if b then one x else first_of test one xs) ≡ (if b then other x else first_of test other xs)
      go true f rest = same x (has_here x xs) f
      go false f rest = rest

  pub meet_same : (test : ℕ → Bool) (one other : ℕ → Option A) (us : List ℕ)
      → ((u : ℕ) → has us u ≡ true → test u ≡ true → one u ≡ other u) → meet test one us ≡ meet test other us
  meet_same test one other us same =
      ap (λ o. if agree test one o us then o else None) (first_same test one other us same)
      ∙ ap (λ b. if b then first_of test other us else None) (agree_same test one other (first_of test other us) us same)
