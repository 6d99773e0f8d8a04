-- Words as branches read them, and integers modulo 2 ^ 64.
use Rattle.std.proofs.Common.{◌≡◌, ◌≢◌, ℕ, suc, ◌-◌, ◌^◌, ◌<◌, Bool, true, false, not, refl, ap, ◌∙◌, arith, ◌==◌, nat_lt, pos, negsuc, ℤ, ◌-ℤ◌, ◌*ℤ◌, ◌≤ℤ◌, ◌<ℤ◌, int_lt}
use Rattle.std.proofs.lemmas.Int.{ints}
use Rattle.std.proofs.lemmas.Bool.Decides.{nat_tests}
use Rattle.std.specs.Int.{w64, cast_signed}
use Rattle.linear_forms.specs.Forms.{Alike, is_zero, word_of}
use Rattle.linear_forms.proofs.Sums.{same, alike_from, alike_trans, alike_sym, word_alike, word_below}
use Rattle.loop_data.specs.Trips.{reading}
use Rattle.loop_data.proofs.Tests.{is_ne, ne_of, eq_of}

pub reading_alike : (signed : Bool) (n : ℕ) → n < 2 ^ 64 → Alike (reading signed n) (pos n)
reading_alike false n lt = same (pos n)
reading_alike true n lt = go (nat_lt n (2 ^ 63)) refl
  where
    go : (b : Bool) → nat_lt n (2 ^ 63) ≡ b → Alike (cast_signed w64 n) (pos n)
    go true e = let l : n < 2 ^ 63 = grind (arith, nat_tests) in alike_from _ _ (omega (arith, ints))
    go false e = let k : cast_signed w64 n ≡ negsuc (2 ^ 64 - suc n) = rw e refl in record { turns = negsuc 0; is = omega (arith, ints) }

-- the integers that a word can be read as
abbrev pub InRange : Bool → ℤ → Type 0
InRange true z = (negsuc (2 ^ 63 - 1) ≤ℤ z) × (z <ℤ pos (2 ^ 63))
InRange false z = (pos 0 ≤ℤ z) × (z <ℤ pos (2 ^ 64))

pub reading_in : (signed : Bool) (n : ℕ) → n < 2 ^ 64 → InRange signed (reading signed n)
reading_in false n lt = (omega (arith, ints), omega (arith, ints))
reading_in true n lt = (omega (arith, ints), omega (arith, ints))

pub alike_equal : (signed : Bool) (a b : ℤ) → InRange signed a → InRange signed b → Alike a b → a ≡ b
alike_equal false a b p q e = let p0 = p.0 in let p1 = p.1 in let q0 = q.0 in let q1 = q.1 in omega (arith, ints)
alike_equal true a b p q e = let p0 = p.0 in let p1 = p.1 in let q0 = q.0 in let q1 = q.1 in omega (arith, ints)

-- the reading of a word to which an integer wraps
pub wrapped_in : (signed : Bool) (z : ℤ) → InRange signed (reading signed (word_of z))
wrapped_in signed z = reading_in signed (word_of z) (word_below z)

pub wrapped_alike : (signed : Bool) (z : ℤ) → Alike (reading signed (word_of z)) z
wrapped_alike signed z = alike_trans _ _ _ (reading_alike signed (word_of z) (word_below z)) (word_alike z)

pub same_reading : (signed : Bool) (x y : ℤ) → InRange signed y → Alike y x → y ≡ reading signed (word_of x)
same_reading signed x y iy p = alike_equal signed y (reading signed (word_of x)) iy (wrapped_in signed x) (alike_trans _ _ _ p (alike_sym _ _ (wrapped_alike signed x)))

-- tests of integers
pub lt_is : (a b : ℤ) → a <ℤ b → int_lt a b ≡ true
lt_is a b h = grind (arith, ints)

pub ge_is : (a b : ℤ) → b ≤ℤ a → int_lt a b ≡ false
ge_is a b h = grind (arith, ints)

pub is_lt : (a b : ℤ) → int_lt a b ≡ true → a <ℤ b
is_lt a b e = grind (arith, ints)

pub is_ge : (a b : ℤ) → int_lt a b ≡ false → b ≤ℤ a
is_ge a b e = grind (arith, ints)

pub zero_is : (z : ℤ) → is_zero z ≡ true → z ≡ pos 0
zero_is (pos n) e = ap pos (eq_of n 0 e)
zero_is (negsuc n) e = absurd (cc)

pub is_zero_of : (z : ℤ) → z ≡ pos 0 → is_zero z ≡ true
is_zero_of z e = ap is_zero e

pub not_zero : (z : ℤ) → z ≢ pos 0 → is_zero z ≡ false
not_zero (pos n) ne = is_ne n 0 (λ e. ne (ap pos e))
not_zero (negsuc n) ne = refl

pub zero_not : (z : ℤ) → not (is_zero z) ≡ true → z ≢ pos 0
zero_not z e q = let k = ap is_zero q in absurd (cc)

pub not_true : (b : Bool) → b ≡ false → not b ≡ true
not_true b e = ap not e

pub nothing_times : (z : ℤ) (t : ℕ) → is_zero z ≡ true → z *ℤ pos t ≡ pos 0
nothing_times z t e = ap (λ z. z *ℤ pos t) (zero_is z e) ∙ omega (arith, ints)

-- two words are the same where their readings are
pub same_words : (signed : Bool) (v w : ℕ) → v < 2 ^ 64 → w < 2 ^ 64 → is_zero (reading signed v -ℤ reading signed w) ≡ (v == w)
same_words signed v w lv lw = go (v == w) refl
  where
    go : (b : Bool) → (v == w) ≡ b → is_zero (reading signed v -ℤ reading signed w) ≡ b
    go true e =
        let q : reading signed v ≡ reading signed w = ap (reading signed) (eq_of v w e) in
        let z : reading signed v -ℤ reading signed w ≡ pos 0 = omega (arith, ints) in
        is_zero_of _ z
    go false e = not_zero _ (λ q. other q)
      where
        other : reading signed v -ℤ reading signed w ≡ pos 0 → ⊥
        other q =
            let x = reading signed v in
            let y = reading signed w in
            let p : Alike (pos v) (pos w) = alike_trans _ _ _ (alike_sym _ _ (reading_alike signed v lv)) (alike_trans _ _ _ (alike_from _ _ (let k : x ≡ y = omega (arith, ints) in k)) (reading_alike signed w lw)) in
            let i : pos v ≡ pos w = alike_equal false (pos v) (pos w) (omega (arith, ints), omega (arith, ints)) (omega (arith, ints), omega (arith, ints)) p in
            let ne = ne_of v w e in
            let j : v ≡ w = cc in
            ne j
