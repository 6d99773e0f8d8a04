-- The words that sums of the check are, as integers.
use Rattle.std.proofs.Common.{◌≡◌, ℕ, ◌+◌, ◌*◌, ◌%◌, ◌^◌, ◌<◌, refl, sym, ap, ◌∙◌, arith, ℤ, pos, negsuc, ◌+ℤ◌, ◌*ℤ◌, Bool, true, false, cond, List, [], ◌∷◌}
use Rattle.std.specs.Prelude.{int_lt, nat_le, ◌&&◌, length}
use Rattle.std.specs.Int.{w64}
use Rattle.std.specs.Int.RustNames.{FitsSigned}
use Rattle.std.proofs.lemmas.Bool.Decides.{nat_tests}
use Rattle.std.proofs.lemmas.Int.{ints}
use Rattle.linear_forms.specs.Forms.{EntryTerm, LinearForm, Alike, IsForm, weight, word_of, exact, is_small, are_small, constant_fits}
use Rattle.linear_forms.specs.Extremes.{least, most}
use Rattle.linear_forms.proofs.Sums.{alike_from, alike_trans, word_is}
use Rattle.linear_forms.proofs.Values.{sum_alike, alike_word}
use Rattle.check_numbers.specs.Parts.{bits}
use Rattle.check_numbers.specs.Sums.{IsShort, AreShort, value_of}
use Rattle.check_numbers.proofs.Sums.{bits_alike, bits_below, product_alike, value_is, small_short}
use Rattle.check_code.proofs.Pieces.{TermsOk, added}

pub bits_word : (z : ℤ) → IsShort z → bits z ≡ word_of z
bits_word z h = word_is (bits z) z (bits_below z h) (bits_alike z h)

pub constant_short : (z : ℤ) → constant_fits z ≡ true → IsShort z
constant_short (pos n) h = (grind (arith, ints, nat_tests), grind (arith, ints, nat_tests))
constant_short (negsuc n) h = (grind (arith, ints, nat_tests), grind (arith, ints, nat_tests))

first_of : (t u : Bool) → (t && u) ≡ true → t ≡ true
first_of true u h = refl
first_of false u h = h

second_of : (t u : Bool) → (t && u) ≡ true → u ≡ true
second_of true u h = h
second_of false u h = absurd (cc)

pub short_fits : (z : ℤ) → IsShort z → FitsSigned w64 z
short_fits (pos n) h = let a = h.1 in record { sfits = omega (arith, ints) }
short_fits (negsuc n) h = let a = h.0 in record { sfits = omega (arith, ints) }

terms_short : (ts : List EntryTerm) → are_small ts ≡ true → TermsOk (λ loc. true) ts
terms_short [] h = tt
terms_short (t ∷ ts) h = (refl, small_short t.by (first_of (is_small t.by) (are_small ts) h), terms_short ts (second_of (is_small t.by) (are_small ts) h))

pub form_terms : (f : LinearForm) → IsForm f → TermsOk (λ loc. true) f.terms
form_terms f h = terms_short f.terms (second_of (nat_le (length f.terms) 4) (are_small f.terms) h.terms.limited)

are_short : (ts : List EntryTerm) → TermsOk (λ loc. true) ts → AreShort ts
are_short [] h = tt
are_short (t ∷ ts) h = (h.1, are_short ts h.2)

at_start : (c w a b d : ℤ) → c +ℤ w ≡ c +ℤ w +ℤ (a *ℤ pos 0 +ℤ (b *ℤ pos 0 +ℤ d *ℤ pos 0))
at_start c w a b d = omega (arith, ints)

-- a form at turn numbers 0
pub start_is : (e : ℕ → ℕ) (f : LinearForm) → IsForm f → value_of e f.constant f.terms ≡ word_of (exact f (λ loc. pos (e loc)) (λ k. 0))
start_is e f h =
    value_is e f.constant f.terms (constant_short f.constant h.bounded.constant) (are_short f.terms (form_terms f h))
    ∙ ap word_of (at_start f.constant (weight (λ loc. pos (e loc)) f.terms) f.first f.second f.third)

pub start_alike : (e : ℕ → ℕ) (f : LinearForm) → IsForm f → Alike (pos (value_of e f.constant f.terms)) (exact f (λ loc. pos (e loc)) (λ k. 0))
start_alike e f h = alike_word (value_of e f.constant f.terms) (exact f (λ loc. pos (e loc)) (λ k. 0)) (start_is e f h)

pub added_alike : (n : ℕ) (z : ℤ) (by : ℤ) (x : ℕ) → IsShort by → Alike (pos n) z → Alike (pos (added n by x)) (z +ℤ by *ℤ pos x)
added_alike n z by x short a = sum_alike n (x * bits by % 2 ^ 64) z (by *ℤ pos x) a (product_alike by x short)

pub added_below : (n : ℕ) (by : ℤ) (x : ℕ) → added n by x < 2 ^ 64
added_below n by x = omega arith

no_more : (z : ℤ) → z ≡ z +ℤ pos 0
no_more z = omega (arith, ints)

unchanged : (n : ℕ) (z : ℤ) → Alike (pos n) z → Alike (pos n) (z +ℤ pos 0)
unchanged n z a = alike_trans _ _ _ a (alike_from _ _ (no_more z))

not_below : (m : ℕ) → int_lt (pos m) (pos 0) ≡ false
not_below m = grind (arith, ints, nat_tests)

-- a stride that lowers the form, by its slot
pub fallen_alike : (n : ℕ) (z by : ℤ) (x : ℕ) → IsShort by → Alike (pos n) z → Alike (pos (cond (int_lt by (pos 0)) (added n by x) n)) (z +ℤ least by x)
fallen_alike n z (pos m) x short a = rw (not_below m) (unchanged n z a)
fallen_alike n z (negsuc m) x short a = added_alike n z (negsuc m) x short a

zero_stride : (m : ℕ) → int_lt (pos 0) (pos m) ≡ false → m ≡ 0
zero_stride m h = grind (arith, ints, nat_tests)

no_times : (x : ℕ) → pos 0 *ℤ pos x ≡ pos 0
no_times x = omega (arith, ints)

-- a stride that raises it
pub risen_alike : (n : ℕ) (z by : ℤ) (x : ℕ) → IsShort by → Alike (pos n) z → Alike (pos (cond (int_lt (pos 0) by) (added n by x) n)) (z +ℤ most by x)
risen_alike n z (pos m) x short a = by_test (int_lt (pos 0) (pos m)) refl
  where
    by_test : (t : Bool) → int_lt (pos 0) (pos m) ≡ t → Alike (pos (cond t (added n (pos m) x) n)) (z +ℤ pos m *ℤ pos x)
    by_test true e = added_alike n z (pos m) x short a
    by_test false e = let k = zero_stride m e in rw k (alike_trans _ _ _ (unchanged n z a) (alike_from _ _ (ap (λ y. z +ℤ y) (sym (no_times x)))))
risen_alike n z (negsuc m) x short a = unchanged n z a

pub either_below : (t : Bool) (n m : ℕ) → n < 2 ^ 64 → m < 2 ^ 64 → cond t n m < 2 ^ 64
either_below true n m a b = a
either_below false n m a b = b

pub regroup : (z a b c : ℤ) → ((z +ℤ a) +ℤ b) +ℤ c ≡ z +ℤ (a +ℤ (b +ℤ c))
regroup z a b c = omega (arith, ints)

-- a word and a few bytes more
pub more_alike : (n : ℕ) (z : ℤ) (size : ℕ) → Alike (pos n) z → Alike (pos ((n + size) % 2 ^ 64)) (z +ℤ pos size)
more_alike n z size a = sum_alike n size z (pos size) a (alike_from (pos size) (pos size) refl)
