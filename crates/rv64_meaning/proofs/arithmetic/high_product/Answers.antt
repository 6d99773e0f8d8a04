use Rattle.std.proofs.Common.{◌≡◌, ℕ, ◌^◌, ◌≤◌, w64, ℤ, pos, negsuc, ◌*ℤ◌, FitsSigned, to_z, of_z, arith, refl, unsigned_abs}
use Rattle.std.proofs.lemmas.Int.{to_z-of_z, fits_signed_mul}
use Rattle.std.specs.Int.{w128}
use Rattle.rv64_meaning.proofs.arithmetic.high_product.Goals as goal

abs_le : (z : ℤ) → FitsSigned w64 z → unsigned_abs z ≤ 2 ^ 63
abs_le (pos n) f = omega (arith, f.sfits)
abs_le (negsuc n) f = omega (arith, f.sfits)

wider : (z : ℤ) → FitsSigned w64 z → FitsSigned w128 z
wider z f = record { sfits = omega (arith, f.sfits) }

product : (x y : ℤ) (r : ℕ) → FitsSigned w64 x → FitsSigned w64 y
    → r ≡ of_z w128 (to_z w128 (of_z w128 (to_z w128 (of_z w128 (to_z w64 (of_z w64 x))) *ℤ to_z w128 (of_z w128 (to_z w64 (of_z w64 y))))))
    → r ≡ of_z w128 (x *ℤ y)
product x y r f g h =
    let both = fits_signed_mul w128 x y (2 ^ 63) (2 ^ 63) (abs_le x f) (abs_le y g) (omega arith) in
    let x64 = to_z-of_z w64 x f in
    let y64 = to_z-of_z w64 y g in
    let x128 = to_z-of_z w128 x (wider x f) in
    let y128 = to_z-of_z w128 y (wider y g) in
    let xy = to_z-of_z w128 (x *ℤ y) both in
    simp (x64, y64, x128, y128, xy) at h

pub returns : goal.returns
returns c =
    let x : FitsSigned w64 c.cast_signed.result = record { sfits = c.cast_signed.type_inv } in
    let y : FitsSigned w64 c.cast_signed-2.result = record { sfits = c.cast_signed-2.type_inv } in
    let h = product c.cast_signed.result c.cast_signed-2.result c.cast_unsigned.result x y c.cast_unsigned.ensures in
    rw (h, c.cast_signed.ensures, c.cast_signed-2.ensures) refl
