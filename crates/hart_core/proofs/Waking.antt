-- A list whose elements are changed in place, one after the other.
use Rattle.std.proofs.Common.{◌≡◌, ℕ, zero, suc, ◌+◌, ◌<◌, ◌≤◌, List, [], ◌∷◌, ◌++◌, length, map, take, drop, set, get_or, refl, ap, arith, add-one}
use Rattle.hart_core.specs.Rows.{wakes}
use Rattle.hart_core.specs.Machine.{Hart}

-- one more is changed
set_suc : {X : Type 0} (f : X → X) (xs : List X) (i : ℕ) (d : X) → i < length xs
    → take (suc i) (set xs i (f (get_or xs i d))) ++ map f (drop (suc i) (set xs i (f (get_or xs i d))))
    ≡ take i xs ++ map f (drop i xs)
set_suc f [] i d l = absurd (omega arith)
set_suc f (x ∷ xs) zero d l = refl
set_suc f (x ∷ xs) (suc i) d l = ap (λ ys. x ∷ ys) (set_suc f xs i d (omega arith))

pub set_mapped : {X : Type 0} (f : X → X) (xs : List X) (i : ℕ) (d : X) → i < length xs
    → take (i + 1) (set xs i (f (get_or xs i d))) ++ map f (drop (i + 1) (set xs i (f (get_or xs i d))))
    ≡ take i xs ++ map f (drop i xs)
set_mapped f xs i d l = rw add-one (set_suc f xs i d l)

pub first_stays : (f : Hart → Hart) (xs : List Hart) → 0 < length xs → take 1 xs ++ map f (drop 1 xs) ≡ wakes f xs
first_stays f [] l = absurd (omega arith)
first_stays f (x ∷ xs) l = refl

pub all_changed : {X : Type 0} (f : X → X) (xs : List X) (i : ℕ) → length xs ≤ i → take i xs ++ map f (drop i xs) ≡ xs
all_changed f [] i l = nothing i
  where
    nothing : (i : ℕ) → take i [] ++ map f (drop i []) ≡ []
    nothing zero = refl
    nothing (suc i) = refl
all_changed f (x ∷ xs) zero l = absurd (omega arith)
all_changed f (x ∷ xs) (suc i) l = ap (λ ys. x ∷ ys) (all_changed f xs i (omega arith))
