-- The words of a trip that goes on while a difference is not 0.
use Rattle.std.proofs.Common.{◌≡◌, ◌≢◌, ℕ, zero, suc, ◌+◌, ◌-◌, ◌*◌, ◌/◌, ◌%◌, ◌^◌, ◌<◌, ◌≤◌, refl, sym, subst, ap, ◌∙◌, arith, ℤ, pos, negsuc, Option, Some, None, Bool, true, false, ◌⊎◌, inl, inr}
use Rattle.std.specs.Prelude.{◌+ℤ◌, ◌-ℤ◌, ◌*ℤ◌, ◌==◌, ◌&&◌, not, int_lt, if◌then◌else◌}
use Rattle.std.specs.Int.{w64, cast_unsigned, cast_signed}
use Rattle.std.specs.Int.RustNames.{int_div, int_rem, unsigned_abs}
use Rattle.std.proofs.lemmas.Int.{ints}
use Rattle.std.proofs.lemmas.Bool.Decides.{nat_tests}
use Rattle.std.proofs.lemmas.Bool.{cases_lt, eqb-true}
use Rattle.std.proofs.Math.Nat.{div-le_self, div-add-mod, mul-le-mul, mod-lt}
use lib.IntN.{neg_ℤ}
use Rattle.rv64_decode.specs.Row.{alu}
use Rattle.rv64_decode.specs.declared.instr.AluOp.TheVariants.{Sub, Rem, Div}
use Rattle.linear_forms.specs.Forms.{is_zero, is_small}
use Rattle.loop_data.specs.declared.trips.Relation.TheVariants.{Differ}
use Rattle.loop_data.specs.Trips.{number, reading}
use Rattle.check_numbers.specs.Parts.{bits}
use Rattle.check_numbers.specs.Sums.{IsShort}
use Rattle.check_numbers.specs.TripWords.{differ_word, differ_holds}
use Rattle.check_numbers.proofs.Words.{signed_low, signed_high}

parts_are : (d : ℕ) (s : ℤ) → IsShort s → s ≢ pos 0 → (alu Div d (bits s) ≡ cast_unsigned w64 (int_div (cast_signed w64 d) s)) × (alu Rem d (bits s) ≡ cast_unsigned w64 (int_rem (cast_signed w64 d) s))
parts_are d s fits nonzero =
    let a = fits.0 in
    let b = fits.1 in
    let back : cast_signed w64 (bits s) ≡ s = omega (arith, ints, a, b) in
    let some : (bits s == 0) ≡ false = by_test (bits s == 0) refl in
    (rw some (ap (λ z. cast_unsigned w64 (int_div (cast_signed w64 d) z)) back), rw some (ap (λ z. cast_unsigned w64 (int_rem (cast_signed w64 d) z)) back))
  where
    zero_step : bits s ≡ 0 → s ≡ pos 0
    zero_step h = let a = fits.0 in let b = fits.1 in omega (arith, ints, a, b, h)

    by_test : (t : Bool) → (bits s == 0) ≡ t → t ≡ false
    by_test false h = refl
    by_test true h = absurd (nonzero (zero_step (eqb-true (bits s) 0 h)))

past_least : (v : ℕ) → 2 ^ 63 ≤ suc v → suc v ≢ 2 ^ 63 → (0 + (2 ^ 64 - suc v)) % 2 ^ 64 < 2 ^ 63
past_least v high n = by_size (cases_lt (2 ^ 63) (suc v))
  where
    by_size : (2 ^ 63 < suc v) ⊎ (suc v ≤ 2 ^ 63) → (0 + (2 ^ 64 - suc v)) % 2 ^ 64 < 2 ^ 63
    by_size (inl l) = omega arith
    by_size (inr l) = absurd (n (omega arith))

-- the negation, but for the least number
negated : (v : ℕ) → v < 2 ^ 64 → v ≢ 2 ^ 63 → cast_signed w64 v ≡ pos 0 -ℤ cast_signed w64 (alu Sub 0 v)
negated zero h n = refl
negated (suc v) h n = by_order (cases_lt (suc v) (2 ^ 63))
  where
    by_order : (suc v < 2 ^ 63) ⊎ (2 ^ 63 ≤ suc v) → cast_signed w64 (suc v) ≡ pos 0 -ℤ cast_signed w64 ((0 + (2 ^ 64 - suc v)) % 2 ^ 64)
    by_order (inl low) =
        let e = signed_low (suc v) low in
        let f : cast_signed w64 ((0 + (2 ^ 64 - suc v)) % 2 ^ 64) ≡ negsuc v = signed_high ((0 + (2 ^ 64 - suc v)) % 2 ^ 64) (omega arith) ∙ ap negsuc (omega arith) in
        omega (arith, ints, e, f)
    by_order (inr high) =
        let e = signed_high (suc v) high in
        let f : cast_signed w64 ((0 + (2 ^ 64 - suc v)) % 2 ^ 64) ≡ pos (2 ^ 64 - suc v) = signed_low ((0 + (2 ^ 64 - suc v)) % 2 ^ 64) (past_least v high n) ∙ ap pos (omega arith) in
        omega (arith, ints, e, f, high, h)

within : (w : ℕ) → w < 2 ^ 64 → w ≢ 2 ^ 63 → unsigned_abs (cast_signed w64 w) < 2 ^ 63
within w h n = by_order (cases_lt w (2 ^ 63)) (cases_lt (2 ^ 63) w)
  where
    by_order : (w < 2 ^ 63) ⊎ (2 ^ 63 ≤ w) → (2 ^ 63 < w) ⊎ (w ≤ 2 ^ 63) → unsigned_abs (cast_signed w64 w) < 2 ^ 63
    by_order (inl low) x = rw (signed_low w low) low
    by_order (inr high) (inl past) = rw (signed_high w high) (omega arith)
    by_order (inr high) (inr least) = absurd (n (omega arith))

-- an integer is 0 where its size is
zero_pos : (z : ℤ) (r : ℕ) → z ≡ pos r → is_zero z ≡ (r == 0)
zero_pos z r e = ap is_zero e

zero_neg : (z : ℤ) (r : ℕ) → z ≡ pos 0 -ℤ pos r → is_zero z ≡ (r == 0)
zero_neg z zero e = ap is_zero e
zero_neg z (suc r) e = let d : pos 0 -ℤ pos (suc r) ≡ negsuc r = omega (arith, ints) in ap is_zero (e ∙ d) ∙ sym (suc_zero r)
  where
    suc_zero : (r : ℕ) → (suc r == 0) ≡ false
    suc_zero r = grind (arith, nat_tests)

-- a negated number as a word
neg_none : (r : ℕ) → r < 2 ^ 63 → (cast_unsigned w64 (neg_ℤ (pos r)) == 0) ≡ (r == 0)
neg_none zero h = refl
neg_none (suc r) h = grind (arith, ints, nat_tests)

neg_low : (q : ℕ) → q < 2 ^ 63 → not (int_lt (cast_signed w64 (cast_unsigned w64 (neg_ℤ (pos q)))) (pos 0)) ≡ (q == 0)
neg_low zero h = refl
neg_low (suc q) h = grind (arith, ints, nat_tests)

pos_low : (q : ℕ) → q < 2 ^ 63 → not (int_lt (cast_signed w64 q) (pos 0)) ≡ true
pos_low q h = grind (arith, ints, nat_tests)

split : (a b : ℕ) → a ≡ b * (a / b) + a % b
split a b = sym (div-add-mod a b)

and_true : (t : Bool) → (t && true) ≡ t
and_true true = refl
and_true false = refl

and_false : (t : Bool) → (t && false) ≡ false
and_false true = refl
and_false false = refl

suc_zero : (r : ℕ) → (suc r == 0) ≡ false
suc_zero r = grind (arith, nat_tests)

some_zero : (n : ℕ) → 0 < n → (n == 0) ≡ false
some_zero n h = grind (arith, nat_tests)

-- both are 0 exactly where the number and its multiple of the quotient are
both_zero : (a b q r : ℕ) → 0 < b → a ≡ b * q + r → (a + b * q == 0) ≡ (r == 0 && q == 0)
both_zero a b zero r h e =
    let n : a + b * 0 ≡ r = omega (arith, e) in
    ap (λ x. x == 0) n ∙ sym (and_true (r == 0))
both_zero a b (suc q) r h e =
    let n : 0 < a + b * suc q = omega (arith, e, h) in
    some_zero (a + b * suc q) n ∙ sym (ap (λ t. r == 0 && t) (suc_zero q) ∙ and_false (r == 0))

-- where the quotient is 0, its negation is too
same_none : (r q : ℕ) → (if r == 0 && q == 0 then Some q else None) ≡ (if r == 0 && q == 0 then Some (cast_unsigned w64 (neg_ℤ (pos q))) else None)
same_none r zero = refl
same_none r (suc q) = rw (suc_zero q, and_false (r == 0)) refl

number_by : (x s : ℤ) (n : ℕ) → unsigned_abs (pos 0 -ℤ x) / unsigned_abs s ≡ n → number Differ true x s (pos 0) ≡ (if is_zero (x +ℤ s *ℤ pos n -ℤ pos 0) then Some n else None)
number_by x s n e = ap (λ k. if is_zero (x +ℤ s *ℤ pos k -ℤ pos 0) then Some k else None) e

back_again : (m : ℤ) → pos 0 -ℤ (pos 0 -ℤ m) ≡ m
back_again m = omega (arith, ints)

times_down : (k n : ℕ) → negsuc k *ℤ pos n ≡ pos 0 -ℤ pos (n * suc k)
times_down k n = let e : n * suc k ≡ suc k * n = omega arith in omega (arith, ints, e)

-- the words' answer, from quotient and remainder
abbrev word_answer : ℤ → ℤ → Option ℕ
word_answer q r = if cast_unsigned w64 r == 0 && not (int_lt (cast_signed w64 (cast_unsigned w64 q)) (pos 0)) then Some (cast_unsigned w64 q) else None

-- of the same sign
same_sign : (x s : ℤ) (a b : ℕ) (z : ℤ) → unsigned_abs (pos 0 -ℤ x) / unsigned_abs s ≡ a / b → is_zero (x +ℤ s *ℤ pos (a / b) -ℤ pos 0) ≡ (a % b == 0) → (cast_unsigned w64 z == 0) ≡ (a % b == 0) → a < 2 ^ 63 → number Differ true x s (pos 0) ≡ word_answer (pos (a / b)) z
same_sign x s a b z n ended rest low =
    let q = a / b in
    let l = div-le_self a b in
    number_by x s q n
    ∙ ap (λ t. if t then Some q else None) (ended ∙ sym rest ∙ sym (and_true (cast_unsigned w64 z == 0)))
    ∙ ap (λ t. if cast_unsigned w64 z == 0 && t then Some q else None) (sym (pos_low q (omega (arith, l, low))))

-- of different signs
other_sign : (x s : ℤ) (a b : ℕ) (z : ℤ) → 0 < b → unsigned_abs (pos 0 -ℤ x) / unsigned_abs s ≡ a / b → is_zero (x +ℤ s *ℤ pos (a / b) -ℤ pos 0) ≡ (a + b * (a / b) == 0) → (cast_unsigned w64 z == 0) ≡ (a % b == 0) → a < 2 ^ 63 → number Differ true x s (pos 0) ≡ word_answer (neg_ℤ (pos (a / b))) z
other_sign x s a b z some n ended rest low =
    let q = a / b in
    let w = cast_unsigned w64 (neg_ℤ (pos q)) in
    let l = div-le_self a b in
    number_by x s q n
    ∙ ap (λ t. if t then Some q else None) (ended ∙ both_zero a b q (a % b) some (split a b))
    ∙ same_none (a % b) q
    ∙ ap (λ t. if t && q == 0 then Some w else None) (sym rest)
    ∙ ap (λ t. if cast_unsigned w64 z == 0 && t then Some w else None) (sym (neg_low q (omega (arith, l, low))))

nonzero : (b : ℕ) → pos b ≢ pos 0 → 0 < b
nonzero zero n = absurd (n refl)
nonzero (suc b) n = omega arith

signs : (m s : ℤ) → unsigned_abs m < 2 ^ 63 → s ≢ pos 0 → number Differ true (pos 0 -ℤ m) s (pos 0) ≡ word_answer (int_div m s) (int_rem m s)
signs (pos a) (pos b) h n =
    let q = a / b in
    let d = split a b in
    let e : pos 0 -ℤ pos a +ℤ pos b *ℤ pos q -ℤ pos 0 ≡ pos 0 -ℤ pos (a % b) = omega (arith, ints, d) in
    same_sign (pos 0 -ℤ pos a) (pos b) a b (pos (a % b)) (ap (λ z. unsigned_abs z / b) (back_again (pos a))) (zero_neg _ (a % b) e) refl h
signs (pos a) (negsuc b) h n =
    let q = a / suc b in
    let t = times_down b q in
    let c : q * suc b ≡ suc b * q = omega arith in
    let e : pos 0 -ℤ pos a +ℤ negsuc b *ℤ pos q -ℤ pos 0 ≡ pos 0 -ℤ pos (a + suc b * q) = omega (arith, ints, t, c) in
    other_sign (pos 0 -ℤ pos a) (negsuc b) a (suc b) (pos (a % suc b)) (omega arith) (ap (λ z. unsigned_abs z / suc b) (back_again (pos a))) (zero_neg _ (a + suc b * q) e) refl h
signs (negsuc a) (pos b) h n =
    let q = suc a / b in
    let e : pos 0 -ℤ negsuc a +ℤ pos b *ℤ pos q -ℤ pos 0 ≡ pos (suc a + b * q) = omega (arith, ints) in
    let d = split (suc a) b in
    other_sign (pos 0 -ℤ negsuc a) (pos b) (suc a) b (neg_ℤ (pos (suc a % b))) (nonzero b n) (ap (λ z. unsigned_abs z / b) (back_again (negsuc a))) (zero_pos _ (suc a + b * q) e) (neg_none (suc a % b) (omega (arith, d, h))) h
signs (negsuc a) (negsuc b) h n =
    let q = suc a / suc b in
    let d = split (suc a) (suc b) in
    let t = times_down b q in
    let c : q * suc b ≡ suc b * q = omega arith in
    let e : pos 0 -ℤ negsuc a +ℤ negsuc b *ℤ pos q -ℤ pos 0 ≡ pos (suc a % suc b) = omega (arith, ints, d, t, c) in
    same_sign (pos 0 -ℤ negsuc a) (negsuc b) (suc a) (suc b) (neg_ℤ (pos (suc a % suc b))) (ap (λ z. unsigned_abs z / suc b) (back_again (negsuc a))) (zero_pos _ (suc a % suc b) e) (neg_none (suc a % suc b) (omega (arith, d, h))) h

not_least : (v : ℕ) → v < 2 ^ 64 → v ≢ 2 ^ 63 → alu Sub 0 v ≢ 2 ^ 63
not_least v h n e = n (omega (arith, e, h))

-- a difference that is not the least number
pub differ_words : (v : ℕ) (s : ℤ) → IsShort s → s ≢ pos 0 → v < 2 ^ 64 → v ≢ 2 ^ 63 → number Differ true (reading true v) s (pos 0) ≡ (if differ_holds v s then Some (differ_word v s) else None)
differ_words v s fits n h least =
    let w = alu Sub 0 v in
    let m = cast_signed w64 w in
    let p = parts_are w s fits n in
    ap (λ x. number Differ true x s (pos 0)) (negated v h least)
    ∙ signs m s (within w (omega arith) (not_least v h least)) n
    ∙ ap (λ r. if r == 0 && not (int_lt (cast_signed w64 (cast_unsigned w64 (int_div m s))) (pos 0)) then Some (cast_unsigned w64 (int_div m s)) else None) (sym p.1)
    ∙ ap (λ q. if alu Rem w (bits s) == 0 && not (int_lt (cast_signed w64 q) (pos 0)) then Some q else None) (sym p.0)

no_way : (t u : Bool) → u ≡ false → (t && u) ≡ true → ⊥
no_way true u a b = cc
no_way false u a b = cc

-- the least number by a small step: so many turns that no check takes them
least_far : (b : ℕ) → 0 < b → b < 2 ^ 30 → 2 ^ 31 < 2 ^ 63 / b
least_far b some small = by_size (cases_lt (2 ^ 31) (2 ^ 63 / b))
  where
    by_size : (2 ^ 31 < 2 ^ 63 / b) ⊎ (2 ^ 63 / b ≤ 2 ^ 31) → 2 ^ 31 < 2 ^ 63 / b
    by_size (inl l) = l
    by_size (inr l) =
        let x : b ≤ 2 ^ 30 - 1 = omega arith in
        let p : b * (2 ^ 63 / b) ≤ (2 ^ 30 - 1) * 2 ^ 31 = mul-le-mul x l in
        let d = split (2 ^ 63) b in
        let m = mod-lt (2 ^ 63) some in
        absurd (omega (arith, p, d, m, small))

size_small : (s : ℤ) → is_small s ≡ true → unsigned_abs s < 2 ^ 30
size_small (pos n) h = grind (arith, ints, nat_tests)
size_small (negsuc n) h = grind (arith, ints, nat_tests)

size_some : (s : ℤ) → s ≢ pos 0 → 0 < unsigned_abs s
size_some (pos n) h = nonzero n h
size_some (negsuc n) h = omega arith

some_is : (t : Bool) (a n : ℕ) → (if t then Some a else None) ≡ Some n → a ≡ n
some_is true a n e = cc
some_is false a n e = absurd (cc)

pub least_number : (s : ℤ) (n : ℕ) → is_small s ≡ true → s ≢ pos 0 → number Differ true (reading true (2 ^ 63)) s (pos 0) ≡ Some n → 2 ^ 31 < n
least_number s n small some e = subst (λ k. 2 ^ 31 < k) (some_is _ (2 ^ 63 / unsigned_abs s) n e) (least_far (unsigned_abs s) (size_some s some) (size_small s small))

below_none : (q : ℕ) → 0 < q → q ≤ 2 ^ 63 → not (int_lt (cast_signed w64 (cast_unsigned w64 (neg_ℤ (pos q)))) (pos 0)) ≡ false
below_none zero h k = absurd (omega arith)
below_none (suc q) h k = grind (arith, ints, nat_tests)

pub least_word : (s : ℤ) → is_small s ≡ true → s ≢ pos 0 → IsShort s → differ_holds (2 ^ 63) s ≡ true → 2 ^ 31 < differ_word (2 ^ 63) s
least_word s small some fits h =
    let p = parts_are (2 ^ 63) s fits some in
    by_sign s small some (p.0) (ap (λ q. alu Rem (alu Sub 0 (2 ^ 63)) (bits s) == 0 && not (int_lt (cast_signed w64 q) (pos 0))) (sym p.0) ∙ h)
  where
    by_sign : (s : ℤ) → is_small s ≡ true → s ≢ pos 0 → alu Div (2 ^ 63) (bits s) ≡ cast_unsigned w64 (int_div (cast_signed w64 (2 ^ 63)) s)
        → (alu Rem (alu Sub 0 (2 ^ 63)) (bits s) == 0 && not (int_lt (cast_signed w64 (cast_unsigned w64 (int_div (cast_signed w64 (2 ^ 63)) s))) (pos 0))) ≡ true → 2 ^ 31 < alu Div (2 ^ 63) (bits s)
    by_sign (pos b) small some e t =
        let l = least_far b (nonzero b some) (size_small (pos b) small) in
        let d = div-le_self (2 ^ 63) b in
        let f = below_none (2 ^ 63 / b) (omega (arith, l)) (omega (arith, d)) in
        absurd (no_way _ _ f t)
    by_sign (negsuc b) small some e t = subst (λ k. 2 ^ 31 < k) (sym e) (least_far (suc b) (omega arith) (size_small (negsuc b) small))
