-- Products of steps with numbers of turns.
use Rattle.std.proofs.Common.{◌≡◌, ℕ, ◌*◌, ◌^◌, ◌≤◌, ap, ◌∙◌, arith, ℤ, pos, negsuc, ◌*ℤ◌, ◌≤ℤ◌, to_z, of_z, FitsSigned, w64}
use Rattle.std.proofs.lemmas.Int.{ints, to_z-of_z, unsigned_abs-mul}
use Rattle.std.proofs.Math.Nat.{mul-le-mul_left, mul-le-mul_right}
use Rattle.std.specs.Int.{w128}
use Rattle.std.specs.Int.RustNames.{unsigned_abs}

pub times_most : (a b m n : ℕ) → a ≤ m → b ≤ n → a * b ≤ m * n
times_most a b m n h k =
    let p : a * b ≤ a * n = mul-le-mul_left a k in
    let q : a * n ≤ m * n = mul-le-mul_right n h in
    omega arith

-- a signed number of 64 bits, up to 2 ^ 31 times
pub gain_most : (a : ℤ) (n : ℕ) → FitsSigned w64 a → n ≤ 2 ^ 31 → unsigned_abs (a *ℤ pos n) ≤ 2 ^ 94
gain_most a n f h =
    let e = unsigned_abs-mul a (pos n) in
    let s : unsigned_abs a ≤ 2 ^ 63 = omega (arith, ints) in
    let p = times_most (unsigned_abs a) n (2 ^ 63) (2 ^ 31) s h in
    omega (arith, ints)

pub gain_low : (z : ℤ) → unsigned_abs z ≤ 2 ^ 94 → negsuc (2 ^ 94) ≤ℤ z
gain_low z h = omega (arith, ints)

pub gain_high : (z : ℤ) → unsigned_abs z ≤ 2 ^ 94 → z ≤ℤ pos (2 ^ 94)
gain_high z h = omega (arith, ints)

fits_gain : (z : ℤ) → unsigned_abs z ≤ 2 ^ 94 → FitsSigned w128 z
fits_gain z h = omega (arith, ints)

fits_wide : (z : ℤ) → FitsSigned w64 z → FitsSigned w128 z
fits_wide z h = omega (arith, ints)

number_wide : (n : ℕ) → n ≤ 2 ^ 31 → to_z w128 n ≡ pos n
number_wide n h = omega (arith, ints)

pub gain_is : (a : ℤ) (n : ℕ) → FitsSigned w64 a → n ≤ 2 ^ 31
    → to_z w128 (of_z w128 (to_z w128 (of_z w128 (to_z w64 (of_z w64 a))) *ℤ to_z w128 n)) ≡ a *ℤ pos n
gain_is a n f h =
    let e = ap (λ x. to_z w128 (of_z w128 x)) (to_z-of_z w64 a f) ∙ to_z-of_z w128 a (fits_wide a f) in
    let g = ap (λ x. x *ℤ to_z w128 n) e ∙ ap (λ x. a *ℤ x) (number_wide n h) in
    ap (λ x. to_z w128 (of_z w128 x)) g ∙ to_z-of_z w128 (a *ℤ pos n) (fits_gain (a *ℤ pos n) (gain_most a n f h))
