-- Lists of addresses that grow at their end.
use Rattle.std.proofs.Common.{◌≡◌, ◌≢◌, ℕ, ◌≤◌, ◌⊎◌, inl, inr, Bool, true, false, nat_eq, List, [], ◌∷◌, ◌++◌, length, take, Contains, refl, sym, ap, subst, ◌∙◌, if◌then◌else◌, arith}
use Rattle.std.proofs.lemmas.Bool.{cases_eq, false_from_ne_true}
use Rattle.std.proofs.lemmas.List.{append_assoc, append-nil, length-append, take-append-le}
use Rattle.std.proofs.lemmas.List.Elements.{Contains-append_left}
use Rattle.std.proofs.lemmas.Map.Views.{exact_unsigned_eq}
use Rattle.std.specs.List.{list_any}
use Rattle.indexmap.specs.IndexSet.{insert_key}
use Rattle.indexmap.proofs.CallerLemmas.{Contains-list_any}
use Rattle.loop_data.proofs.Lists.{In, to_in, from_in}
use Rattle.flow_recovery.specs.Search.{Grows}

pub absent : (xs : List ℕ) (a : ℕ) → ¬ Contains xs a → list_any (nat_eq a) xs ≡ false
absent xs a none = false_from_ne_true _ (λ e. none (Contains-list_any nat_eq exact_unsigned_eq xs a e))

pub Grows-refl : (xs : List ℕ) → Grows xs xs
Grows-refl xs = record { added = []; is = sym (append-nil xs) }

pub Grows-push : (xs : List ℕ) (a : ℕ) → Grows xs (xs ++ a ∷ [])
Grows-push xs a = record { added = a ∷ []; is = refl }

pub Grows-insert_key : (xs : List ℕ) (a : ℕ) → Grows xs (insert_key nat_eq xs a)
Grows-insert_key xs a = by (list_any (nat_eq a) xs)
  where
    by : (b : Bool) → Grows xs (if b then xs else xs ++ a ∷ [])
    by true = Grows-refl xs
    by false = Grows-push xs a

pub Grows-trans : (xs ys zs : List ℕ) → Grows xs ys → Grows ys zs → Grows xs zs
Grows-trans xs ys zs g h =
    record { added = g.added ++ h.added; is = h.is ∙ ap (λ l. l ++ h.added) g.is ∙ append_assoc xs g.added h.added }

pub Contains-grown : (xs ys : List ℕ) (a : ℕ) → Grows xs ys → Contains xs a → Contains ys a
Contains-grown xs ys a g m = subst (λ l. Contains l a) (sym g.is) (Contains-append_left xs g.added a m)

pub take-grown : (n : ℕ) (xs ys : List ℕ) → Grows xs ys → n ≤ length xs → take n ys ≡ take n xs
take-grown n xs ys g short = ap (take n) g.is ∙ take-append-le n xs g.added short

pub length-grown : (xs ys : List ℕ) → Grows xs ys → length xs ≤ length ys
length-grown xs ys g = let e = ap length g.is in let l = length-append xs g.added in omega arith

one_or_among : (y x : ℕ) (ys : List ℕ) → (y ≡ x) ⊎ (y ≢ x) → In ys x ⊎ (In ys x → ⊥) → In (y ∷ ys) x ⊎ (In (y ∷ ys) x → ⊥)
one_or_among y x ys (inl e) r = inl (inl e)
one_or_among y x ys (inr n) (inl i) = inl (inr i)
one_or_among y x ys (inr n) (inr f) = inr neither
  where
    neither : In (y ∷ ys) x → ⊥
    neither (inl e) = n e
    neither (inr i) = f i

among : (xs : List ℕ) (x : ℕ) → In xs x ⊎ (In xs x → ⊥)
among [] x = inr (λ i. i)
among (y ∷ ys) x = one_or_among y x ys (cases_eq y x) (among ys x)

-- a number is in a list or is not
pub decide : (xs : List ℕ) (x : ℕ) → Contains xs x ⊎ ¬ Contains xs x
decide xs x = by (among xs x)
  where
    by : In xs x ⊎ (In xs x → ⊥) → Contains xs x ⊎ ¬ Contains xs x
    by (inl i) = inl (from_in xs x i)
    by (inr n) = inr (λ c. n (to_in xs x c))
