-- Forms on words of 32 bits, out of their constants and the rest of them.
use Rattle.std.proofs.Common.{◌≡◌, ◌^◌, ◌%◌, ◌*◌, List, [], ◌∷◌, arith, ◌<◌, ℕ, Bool, true, false, ◌&&◌, Option, Some, None, refl, ap, sym, ◌∙◌, subst, pos, negsuc, ℤ, ◌+ℤ◌, ◌*ℤ◌, FitsSigned, to_z, of_z, w64}
use Rattle.std.proofs.lemmas.Int.{ints, to_z-of_z}
use Rattle.std.proofs.lemmas.Bool.Decides.{nat_tests}
use Rattle.rv64_decode.specs.Row.{signed32}
use Rattle.linear_forms.specs.Forms.{Alike, EntryTerm, LinearForm, is_zero, is_small, are_limited, limited, sum_of, difference, multiple, word_of}
use Rattle.linear_forms.proofs.Sums.{limited_is, word_is, word_alike, word_below, alike_trans, alike_times}
use Rattle.linear_forms.proofs.Values.{bits_alike, product_word}
use Rattle.linear_forms.proofs.Limits.{all_limited}
use Rattle.loop_data.specs.Facts.{short_of}
use Rattle.loop_data.specs.FormRows.{is_pure, is_empty, form_sum, form_difference}
use Rattle.register_equations.specs.declared.rows.Short.{Short}
use Rattle.register_equations.specs.Rows.{floating, at_constant, IsShortResult}

bits_below : (z : ℤ) → FitsSigned w64 z → of_z w64 z < 2 ^ 64
bits_below (pos n) f = omega (arith, ints)
bits_below (negsuc n) f = omega (arith, ints)

-- the bits of a signed number are those of its word
pub bits_word : (z : ℤ) → FitsSigned w64 z → of_z w64 z ≡ word_of z
bits_word z f = word_is (of_z w64 z) z (bits_below z f) (bits_alike z f)

word_same : (a b : ℤ) → Alike a b → word_of a ≡ word_of b
word_same a b p = word_is (word_of a) b (word_below a) (alike_trans _ _ _ (word_alike a) p)

-- the product of two words is the word of the product
pub product_bits : (by c : ℤ) → FitsSigned w64 by → FitsSigned w64 c → of_z w64 by * of_z w64 c % 2 ^ 64 ≡ word_of (by *ℤ c)
product_bits by c f g = product_word by (of_z w64 c) f ∙ word_same _ _ (alike_times by _ _ (bits_alike c g))

short_fits : (n : ℕ) → FitsSigned w64 (signed32 n)
short_fits n = omega (arith, ints)

-- the low half of the word of a constant
pub short_by : (k z : ℤ) (u : ℕ) → u ≡ word_of z → k ≡ signed32 u → to_z w64 (of_z w64 k) ≡ short_of z
short_by k z u a d =
    let b : k ≡ short_of z = d ∙ ap signed32 a in
    let t : to_z w64 (of_z w64 k) ≡ k = to_z-of_z w64 k (subst (FitsSigned w64) (sym d) (short_fits u)) in
    t ∙ b

pub short_constant : (k z c : ℤ) (u : ℕ) → FitsSigned w64 c → u ≡ of_z w64 (to_z w64 (of_z w64 c)) → k ≡ signed32 u → c ≡ z → to_z w64 (of_z w64 k) ≡ short_of z
short_constant k z c u f e d q = short_by k z u (e ∙ ap (of_z w64) (to_z-of_z w64 c f) ∙ bits_word c f ∙ ap word_of q) d

pub pure_short : (f g : LinearForm) (b : Bool) → Some g ≡ limited (floating f) → is_pure g ≡ b → is_pure f ≡ b
pure_short f g b e p = ap is_pure (limited_is (floating f) g (sym e)) ∙ p

pub limited_back : (f g : LinearForm) (z : ℤ) (o : Option LinearForm) → Some g ≡ limited (floating f) → z ≡ f.constant → o ≡ limited (at_constant g z) → o ≡ limited f
limited_back f g z o e q h =
    let k : floating f ≡ g = limited_is (floating f) g (sym e) in
    h ∙ ap (λ i. limited (at_constant i z)) (sym k) ∙ ap (λ y. limited (at_constant f y)) q

pub short_sum_is : (s : Short) (F G f g : LinearForm) (o : Option LinearForm) (z : ℤ) (p q : Option LinearForm) → f ≡ floating F → g ≡ floating G → o ≡ limited (sum_of f g) → z ≡ F.constant +ℤ G.constant
    → ((h : LinearForm) → o ≡ limited (floating h) → z ≡ h.constant → IsShortResult s (Some h)) → p ≡ Some F → q ≡ Some G → IsShortResult s (form_sum p q)
short_sum_is s F G f g o z p q e d h k all a b =
    let w : o ≡ limited (floating (sum_of F G)) = h ∙ ap (λ x. limited (sum_of x g)) e ∙ ap (λ x. limited (sum_of (floating F) x)) d in
    rw (a, b) (all (sum_of F G) w k)

pub short_difference_is : (s : Short) (F G f g : LinearForm) (o : Option LinearForm) (z : ℤ) (p q : Option LinearForm) → f ≡ floating F → g ≡ floating G → o ≡ limited (difference f g) → z ≡ F.constant +ℤ negsuc 0 *ℤ G.constant
    → ((h : LinearForm) → o ≡ limited (floating h) → z ≡ h.constant → IsShortResult s (Some h)) → p ≡ Some F → q ≡ Some G → IsShortResult s (form_difference p q)
short_difference_is s F G f g o z p q e d h k all a b =
    let w : o ≡ limited (floating (difference F G)) = h ∙ ap (λ x. limited (difference x g)) e ∙ ap (λ x. limited (difference (floating F) x)) d in
    rw (a, b) (all (difference F G) w k)

-- a multiple, and its constant
multiple_floats : (by : ℤ) (f : LinearForm) → multiple by (floating f) ≡ floating (multiple by f)
multiple_floats by f = let e : by *ℤ pos 0 ≡ pos 0 = omega (arith, ints) in ap (λ z. at_constant (multiple by f) z) e

pub multiple_rest : (by : ℤ) (f g : LinearForm) (o : Option LinearForm) → g ≡ floating f → o ≡ limited (multiple by g) → o ≡ limited (floating (multiple by f))
multiple_rest by f g o e h = h ∙ ap (λ x. limited (multiple by x)) e ∙ ap limited (multiple_floats by f)

-- a form that does not keep to the limits, whatever its constant, is no constant
pub no_constant : (f : LinearForm) → None ≡ limited (floating f) → is_pure f ≡ false
no_constant f e = go f.terms (is_zero f.first) (is_zero f.second) (is_zero f.third) refl refl refl refl
  where
    zero_small : (z : ℤ) → is_zero z ≡ true → is_small z ≡ true
    zero_small (pos n) e = let k : n ≡ 0 = grind (arith, nat_tests) in rw k refl
    zero_small (negsuc n) e = absurd (cc)

    within : (ts : List EntryTerm) → f.terms ≡ ts → is_empty ts ≡ true → is_zero f.first ≡ true → is_zero f.second ≡ true → is_zero f.third ≡ true → ⊥
    within [] q h a b c =
        let k : Some (floating f) ≡ limited (floating f) = all_limited (floating f) refl (ap are_limited q) (zero_small f.first a) (zero_small f.second b) (zero_small f.third c) in
        let w : None ≡ Some (floating f) = e ∙ sym k in
        absurd (cc)
    within (t ∷ ts) q h a b c = absurd (cc)

    go : (ts : List EntryTerm) (x y z : Bool) → f.terms ≡ ts → is_zero f.first ≡ x → is_zero f.second ≡ y → is_zero f.third ≡ z → (is_empty f.terms && (is_zero f.first && (is_zero f.second && is_zero f.third))) ≡ false
    go [] true true true q a b c = absurd (within [] q refl a b c)
    go [] true true false q a b c = rw (q, a, b, c) refl
    go [] true false z q a b c = rw (q, a, b) refl
    go [] false y z q a b c = rw (q, a) refl
    go (t ∷ ts) x y z q a b c = rw q refl
