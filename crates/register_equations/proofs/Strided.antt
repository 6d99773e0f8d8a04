-- Forms with other strides.
use Rattle.std.proofs.Common.{◌≡◌, ap, ◌∙◌, Some, ℤ}
use Rattle.linear_forms.specs.Forms.{LinearForm}

abbrev pub with_strides : LinearForm → ℤ → ℤ → ℤ → LinearForm
with_strides f x y z = record { constant = f.constant; terms = f.terms; first = x; second = y; third = z }

pub turned_is : (f g : LinearForm) (x y z a b d : ℤ) → g ≡ with_strides f x y z → x ≡ a → y ≡ b → z ≡ d → Some g ≡ Some (with_strides f a b d)
turned_is f g x y z a b d e p q r =
    ap (λ (h : LinearForm). Some h) (e ∙ ap (λ t. with_strides f t y z) p ∙ ap (λ t. with_strides f a t z) q ∙ ap (λ t. with_strides f a b t) r)
