-- Numbers within the limits fit in 64 bits.
use Rattle.std.proofs.Common.{◌≡◌, ◌≢◌, ◌-◌, ◌^◌, Bool, true, false, refl, ap, sym, ◌∙◌, subst, arith, ℤ, pos, negsuc, ◌+ℤ◌, ◌*ℤ◌, to_z, of_z, ◌≤ℤ◌, ◌<ℤ◌, FitsSigned, w64, int_lt, if◌then◌else◌}
use Rattle.std.proofs.lemmas.Int.{ints, to_z-of_z}
use Rattle.linear_forms.specs.Forms.{between, is_small, constant_fits}

pub between_is : (low high z : ℤ) → between low high z ≡ true → (low ≤ℤ z) × (z <ℤ high)
between_is low high z = go (int_lt z low) refl
  where
    go : (b : Bool) → int_lt z low ≡ b → (if b then false else int_lt z high) ≡ true → (low ≤ℤ z) × (z <ℤ high)
    go true e f = absurd (cc)
    go false e f = (grind (arith, ints), grind (arith, ints))

pub small_is : (z : ℤ) → is_small z ≡ true → (negsuc (2 ^ 30 - 2) ≤ℤ z) × (z <ℤ pos (2 ^ 30))
small_is z e = between_is _ _ z e

pub fits_small : (z : ℤ) → is_small z ≡ true → FitsSigned w64 z
fits_small z e = let p = small_is z e in let a = p.0 in let b = p.1 in omega (arith, ints)

pub constant_is : (z : ℤ) → constant_fits z ≡ true → (negsuc (2 ^ 31 - 1) ≤ℤ z) × (z <ℤ pos (2 ^ 31))
constant_is z e = between_is _ _ z e

pub fits_constant : (z : ℤ) → constant_fits z ≡ true → FitsSigned w64 z
fits_constant z e = let p = constant_is z e in let a = p.0 in let b = p.1 in omega (arith, ints)

pub fits_sum : (a b : ℤ) → is_small a ≡ true → is_small b ≡ true → FitsSigned w64 (a +ℤ b)
fits_sum a b e f =
    let p = small_is a e in let q = small_is b f in let c = p.0 in let d = p.1 in let g = q.0 in let h = q.1 in
    omega (arith, ints)

pub fits_zero : (z : ℤ) → z ≡ pos 0 → FitsSigned w64 z
fits_zero z e = omega (arith, ints)

pub large : (z : ℤ) → (FitsSigned w64 z → ⊥) → (z ≢ pos 0) × (is_small z ≡ false)
large z n = ((λ e. n (fits_zero z e)), go (is_small z) refl)
  where
    go : (b : Bool) → is_small z ≡ b → is_small z ≡ false
    go true e = absurd (n (fits_small z e))
    go false e = e

-- products of numbers of 64 bits, which are read from their bits
pub bits_product : (a b : ℤ) → FitsSigned w64 a → FitsSigned w64 b → to_z w64 (of_z w64 a) *ℤ to_z w64 (of_z w64 b) ≡ a *ℤ b
bits_product a b f g = let p = to_z-of_z w64 a f in let q = to_z-of_z w64 b g in ap (λ x. x *ℤ to_z w64 (of_z w64 b)) p ∙ ap (λ x. a *ℤ x) q

pub product_is : (a b p : ℤ) → FitsSigned w64 a → FitsSigned w64 b → FitsSigned w64 (to_z w64 (of_z w64 a) *ℤ to_z w64 (of_z w64 b))
    → to_z w64 (of_z w64 a) *ℤ to_z w64 (of_z w64 b) ≡ p → to_z w64 (of_z w64 p) ≡ a *ℤ b
product_is a b p f g h e = to_z-of_z w64 p (subst (FitsSigned w64) e h) ∙ sym e ∙ bits_product a b f g

pub product_large : (a b : ℤ) → FitsSigned w64 a → FitsSigned w64 b → (FitsSigned w64 (to_z w64 (of_z w64 a) *ℤ to_z w64 (of_z w64 b)) → ⊥)
    → (a *ℤ b ≢ pos 0) × (is_small (a *ℤ b) ≡ false)
product_large a b f g n = large (a *ℤ b) (λ h. n (subst (FitsSigned w64) (sym (bits_product a b f g)) h))
