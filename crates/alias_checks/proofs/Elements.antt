-- Tests over lists, element by element.
use Rattle.std.proofs.Common.{◌≡◌, ℕ, zero, suc, ◌<◌, ◌≤◌, drop, arith, [], ◌∷◌, List, length, Bool, true, false, refl, sym, ◌∙◌, get_or}
use Rattle.std.proofs.lemmas.List.Folds.{list_all_at}
use Rattle.std.specs.List.{list_all}

-- where all pass, each does
pub each_passes : {X : Type 0} (test : X → Bool) (xs : List X) (i : ℕ) (d : X) → list_all test xs ≡ true → i < length xs → test (get_or xs i d) ≡ true
each_passes test xs i d e h = go (test (get_or xs i d)) refl
  where
    go : (b : Bool) → test (get_or xs i d) ≡ b → test (get_or xs i d) ≡ true
    go true f = f
    go false f = let k = list_all_at test xs i d h f in absurd (cc)

-- where the rest passes as the whole does, and nothing is left, all pass
pub all_passed : {X : Type 0} (test : X → Bool) (xs : List X) (i : ℕ) → length xs ≤ i → list_all test (drop i xs) ≡ list_all test xs → list_all test xs ≡ true
all_passed {X = X} test xs i h e = sym e ∙ none_left xs i h
  where
    none_left : (ys : List X) (j : ℕ) → length ys ≤ j → list_all test (drop j ys) ≡ true
    none_left [] zero h = refl
    none_left [] (suc j) h = refl
    none_left (y ∷ ys) zero h = absurd (omega arith)
    none_left (y ∷ ys) (suc j) h = none_left ys j (omega arith)
