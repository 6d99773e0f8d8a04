-- Lists of records that are told apart by their keys.
use Rattle.std.proofs.Common.{◌≡◌, ℕ, zero, suc, List, [], ◌∷◌, map, refl, ap, ◌∙◌, subst, arith}
use Rattle.std.specs.List.{Contains}
use Rattle.std.specs.List.Sorted.{IsStrictlyIncreasing}
use Rattle.loop_data.proofs.Rising.{same_members}

later : {A : Type 0} (y : A) (ys : List A) (x : A) → Contains ys x → Contains (y ∷ ys) x
later y ys x c = (suc c.0, (let l = c.1 in omega arith), c.2)

-- records with the same keys that look the same wherever their keys are
pub same_seen : {A B : Type 0} (key : A → ℕ) (seen : A → B) (xs ys : List A) → map key xs ≡ map key ys → ((x y : A) → Contains xs x → Contains ys y → key x ≡ key y → seen x ≡ seen y) → map seen xs ≡ map seen ys
same_seen key seen [] [] e f = refl
same_seen key seen [] (y ∷ ys) e f = absurd (cc)
same_seen key seen (x ∷ xs) [] e f = absurd (cc)
same_seen key seen (x ∷ xs) (y ∷ ys) e f =
    let first : key x ≡ key y = cc in
    let rest : map key xs ≡ map key ys = cc in
    ap (λ z. z ∷ map seen xs) (f x y (0, omega arith, refl) (0, omega arith, refl) first)
    ∙ ap (λ zs. seen y ∷ zs) (same_seen key seen xs ys rest (λ v w c d. f v w (later x xs v c) (later y ys w d)))

-- and that are the same wherever their keys are
pub same_keyed : {A : Type 0} (key : A → ℕ) (xs ys : List A) → map key xs ≡ map key ys → ((x y : A) → Contains xs x → Contains ys y → key x ≡ key y → x ≡ y) → xs ≡ ys
same_keyed key [] [] e f = refl
same_keyed key [] (y ∷ ys) e f = absurd (cc)
same_keyed key (x ∷ xs) [] e f = absurd (cc)
same_keyed key (x ∷ xs) (y ∷ ys) e f =
    let first : key x ≡ key y = cc in
    let rest : map key xs ≡ map key ys = cc in
    ap (λ z. z ∷ xs) (f x y (0, omega arith, refl) (0, omega arith, refl) first)
    ∙ ap (λ zs. y ∷ zs) (same_keyed key xs ys rest (λ v w c d. f v w (later x xs v c) (later y ys w d)))

-- a key of the list is that of a record
pub with_key : {A : Type 0} (key : A → ℕ) (xs : List A) (u : ℕ) → Contains (map key xs) u → (x : A) × Contains xs x × (key x ≡ u)
with_key key [] u (k, l, e) = absurd (omega arith)
with_key key (x ∷ xs) u (zero, l, e) = (x, (0, omega arith, refl), e)
with_key key (x ∷ xs) u (suc k, l, e) = let r = with_key key xs u (k, omega arith, e) in (r.0, later x xs r.0 r.1, r.2)

-- keys in order are the same where each of one list is one of the other
pub same_keys : {A : Type 0} (key : A → ℕ) (xs ys : List A) → IsStrictlyIncreasing (map key xs) → IsStrictlyIncreasing (map key ys)
    → ((x : A) → Contains xs x → Contains (map key ys) (key x)) → ((y : A) → Contains ys y → Contains (map key xs) (key y)) → map key xs ≡ map key ys
same_keys {A} key xs ys p q f g = same_members (map key xs) (map key ys) p q (over xs ys f) (over ys xs g)
  where
    over : (vs ws : List A) → ((x : A) → Contains vs x → Contains (map key ws) (key x)) → (u : ℕ) → Contains (map key vs) u → Contains (map key ws) u
    over vs ws h u c = let r = with_key key vs u c in subst (Contains (map key ws)) r.2 (h r.0 r.1)
