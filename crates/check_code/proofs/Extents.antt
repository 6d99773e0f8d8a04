-- The words of the least and the greatest value of a form at a word of a loop, as integers.
use Rattle.std.proofs.Common.{◌≡◌, ℕ, zero, suc, ◌+◌, ◌-◌, ◌*◌, ◌%◌, ◌^◌, ◌<◌, ◌≤◌, refl, sym, subst, ap, ◌∙◌, arith, ℤ, pos, negsuc, ◌+ℤ◌, ◌*ℤ◌, ◌≤ℤ◌, Bool, true, false, cond, List, [], ◌∷◌}
use Rattle.std.specs.Prelude.{◌==◌, ◌&&◌, nat_lt, int_lt, slice_index, if◌then◌else◌}
use Rattle.std.specs.List.{All}
use Rattle.std.proofs.lemmas.Int.{ints}
use Rattle.std.proofs.lemmas.Bool.Decides.{nat_tests}
use Rattle.rv64_decode.specs.Row.{signed64}
use Rattle.rv64_decode.specs.Area.{bytes_of}
use Rattle.rv64_decode.specs.declared.memory.Width.{Width}
use Rattle.rv64_decode.specs.declared.memory.Width.TheVariants.{One, Two, Four, Eight}
use Rattle.linear_forms.specs.Forms.{EntryTerm, LinearForm, Alike, IsForm, IsBounded, exact, word_of, is_small}
use Rattle.linear_forms.specs.Extremes.{least, most, lowest_shift, highest_shift}
use Rattle.linear_forms.proofs.Sums.{alike_from, alike_trans, word_is, word_alike, alike_sym}
use Rattle.loop_data.specs.declared.accesses.Access.{Access}
use Rattle.dependence_tests.specs.Overlaps.{last_pass, last_round, whole_range}
use Rattle.alias_checks.specs.Entry.{start_value}
use Rattle.alias_checks.specs.AccessTests.{last_at, AreShifts}
use Rattle.alias_checks.proofs.Shifts.{shifts_of}
use Rattle.stub_laws.proofs.Known.{Knows}
use Rattle.check_numbers.specs.Sums.{IsLong, value_of}
use Rattle.check_numbers.proofs.Signed.{sum_signed}
use Rattle.check_code.specs.Rounds.{is_inner, pass_slot, own_slots, own_stride, own_form, last_from, AreKnown, IsPassKnown, AreRoundsKnown}
use Rattle.check_code.proofs.Pieces.{TermsOk, added}
use Rattle.check_code.proofs.Values.{form_terms, start_alike, added_below, fallen_alike, risen_alike, either_below, regroup, more_alike}
use Rattle.check_code.proofs.Runs.{AreStrides, strides_of, sum_below}
use Rattle.check_code.proofs.States.{low_word, raised_word, high_word, from_slots}

-- where the locations hold these words
abbrev pub words : (ℕ → ℕ) → ℕ → ℤ
words e loc = pos (e loc)

-- a form at turn numbers 0
abbrev pub first_value : (ℕ → ℕ) → LinearForm → ℤ
first_value e f = exact f (words e) (λ k. 0)

small_own : (place : ℕ) (by : ℤ) → is_small by ≡ true → is_small (own_stride place by) ≡ true
small_own place by h = by_test (is_inner place)
  where
    by_test : (t : Bool) → is_small (cond t by (pos 0)) ≡ true
    by_test true = h
    by_test false = refl

pub own_is_form : (f : LinearForm) (around : List ℕ) → IsForm f → IsForm (own_form f around)
own_is_form f around h = record {
  terms = h.terms;
  bounded = record {
    constant = h.bounded.constant;
    first = h.bounded.first;
    second = small_own (slice_index around 1) f.second h.bounded.second;
    third = small_own (slice_index around 2) f.third h.bounded.third;
  };
}

known_terms : (known : ℕ → Bool) (ts : List EntryTerm) → AreKnown known ts → TermsOk (λ loc. true) ts → TermsOk known ts
known_terms known [] a b = tt
known_terms known (t ∷ ts) a b = (a.0, b.1, known_terms known ts a.1 b.2)

pub terms_known : (known : ℕ → Bool) (f : LinearForm) → IsForm f → AreKnown known f.terms → TermsOk known f.terms
terms_known known f h k = known_terms known f.terms k (form_terms f h)

-- the words of sums, whatever the last turn numbers are
pub low_is : (e : ℕ → ℕ) (f : LinearForm) (x : ℕ → ℕ) (z : ℤ) → IsForm f → Alike (pos (value_of e f.constant f.terms)) z
    → low_word e f x ≡ word_of (z +ℤ lowest_shift f x)
low_is e f x z fine start =
    let st = strides_of f fine in
    let n = value_of e f.constant f.terms in
    let n1 = cond (int_lt f.first (pos 0)) (added n f.first (x 0)) n in
    let n2 = cond (int_lt f.second (pos 0)) (added n1 f.second (x 1)) n1 in
    let b0 = sum_below e f fine in
    let b1 = either_below (int_lt f.first (pos 0)) (added n f.first (x 0)) n (added_below n f.first (x 0)) b0 in
    let b2 = either_below (int_lt f.second (pos 0)) (added n1 f.second (x 1)) n1 (added_below n1 f.second (x 1)) b1 in
    let b3 = either_below (int_lt f.third (pos 0)) (added n2 f.third (x 2)) n2 (added_below n2 f.third (x 2)) b2 in
    let a1 = fallen_alike n z f.first (x 0) st.first start in
    let a2 = fallen_alike n1 (z +ℤ least f.first (x 0)) f.second (x 1) st.second a1 in
    let a3 = fallen_alike n2 (z +ℤ least f.first (x 0) +ℤ least f.second (x 1)) f.third (x 2) st.third a2 in
    word_is _ _ b3 (alike_trans _ _ _ a3 (alike_from _ _ (regroup z (least f.first (x 0)) (least f.second (x 1)) (least f.third (x 2)))))

pub raised_alike : (e : ℕ → ℕ) (f : LinearForm) (x : ℕ → ℕ) (z : ℤ) → IsForm f → Alike (pos (value_of e f.constant f.terms)) z
    → Alike (pos (raised_word e f x)) (z +ℤ highest_shift f x)
raised_alike e f x z fine start =
    let st = strides_of f fine in
    let n = value_of e f.constant f.terms in
    let n1 = cond (int_lt (pos 0) f.first) (added n f.first (x 0)) n in
    let n2 = cond (int_lt (pos 0) f.second) (added n1 f.second (x 1)) n1 in
    let a1 = risen_alike n z f.first (x 0) st.first start in
    let a2 = risen_alike n1 (z +ℤ most f.first (x 0)) f.second (x 1) st.second a1 in
    let a3 = risen_alike n2 (z +ℤ most f.first (x 0) +ℤ most f.second (x 1)) f.third (x 2) st.third a2 in
    alike_trans _ _ _ a3 (alike_from _ _ (regroup z (most f.first (x 0)) (most f.second (x 1)) (most f.third (x 2))))

reduced : (n : ℕ) → n % 2 ^ 64 < 2 ^ 64
reduced n = omega arith

pub high_is : (e : ℕ → ℕ) (f : LinearForm) (x : ℕ → ℕ) (z : ℤ) (size : ℕ) → IsForm f → Alike (pos (value_of e f.constant f.terms)) z
    → high_word e f x size ≡ word_of (z +ℤ highest_shift f x +ℤ pos size)
high_is e f x z size fine start =
    word_is _ _ (reduced (raised_word e f x + size)) (more_alike (raised_word e f x) _ size (raised_alike e f x z fine start))

-- the slots have the last turn numbers of the loops
none_less : (by : ℤ) → least by 0 ≡ pos 0
none_less (pos m) = refl
none_less (negsuc m) = omega (arith, ints)

none_more : (by : ℤ) → most by 0 ≡ pos 0
none_more (pos m) = omega (arith, ints)
none_more (negsuc m) = refl

zero_times : (n : ℕ) → pos 0 *ℤ pos n ≡ pos 0
zero_times n = omega (arith, ints)

no_loop : (n : ℕ) → is_inner (suc (suc (suc (suc n)))) ≡ false
no_loop n = grind (arith, nat_tests)

no_stride : (n : ℕ) (by : ℤ) → own_stride (suc (suc (suc (suc n)))) by ≡ pos 0
no_stride n by = rw (no_loop n) refl

least_own : (known : ℕ → Bool) (e f g : ℕ → ℕ) → Knows known e f g → (place : ℕ) (by : ℤ) → IsPassKnown known place
    → least (own_stride place by) (g (pass_slot place)) ≡ least by (last_pass (last_from e) place)
least_own known e f g k zero by h = sym (none_less by)
least_own known e f g k (suc zero) by h = ap (least by) (k.each 56 (h refl))
least_own known e f g k (suc (suc zero)) by h = ap (least by) (k.each 57 (h refl))
least_own known e f g k (suc (suc (suc zero))) by h = ap (least by) (k.each 58 (h refl))
least_own known e f g k (suc (suc (suc (suc n)))) by h =
    ap (λ y. least y (g (pass_slot (suc (suc (suc (suc n))))))) (no_stride n by) ∙ sym (none_less by)

most_own : (known : ℕ → Bool) (e f g : ℕ → ℕ) → Knows known e f g → (place : ℕ) (by : ℤ) → IsPassKnown known place
    → most (own_stride place by) (g (pass_slot place)) ≡ most by (last_pass (last_from e) place)
most_own known e f g k zero by h = zero_times (g (pass_slot 0)) ∙ sym (none_more by)
most_own known e f g k (suc zero) by h = ap (most by) (k.each 56 (h refl))
most_own known e f g k (suc (suc zero)) by h = ap (most by) (k.each 57 (h refl))
most_own known e f g k (suc (suc (suc zero))) by h = ap (most by) (k.each 58 (h refl))
most_own known e f g k (suc (suc (suc (suc n)))) by h =
    ap (λ y. most y (g (pass_slot (suc (suc (suc (suc n))))))) (no_stride n by) ∙ zero_times (g (pass_slot (suc (suc (suc (suc n)))))) ∙ sym
    (none_more by)

sum_of_three : (a b c a' b' c' : ℤ) → a ≡ a' → b ≡ b' → c ≡ c' → a +ℤ (b +ℤ c) ≡ a' +ℤ (b' +ℤ c')
sum_of_three a b c a' b' c' p q r = cc

lowest_own : (known : ℕ → Bool) (e f g : ℕ → ℕ) (form : LinearForm) (around : List ℕ) → Knows known e f g → AreRoundsKnown known form around
    → lowest_shift (own_form form around) (from_slots g (own_slots around)) ≡ lowest_shift form (last_at around (last_from e))
lowest_own known e f g form around k h =
    sum_of_three _ _ _ _ _ _ (ap (least form.first) (k.each 55 h.root))
    (least_own known e f g k (slice_index around 1) form.second h.second)
    (least_own known e f g k (slice_index around 2) form.third h.third)

highest_own : (known : ℕ → Bool) (e f g : ℕ → ℕ) (form : LinearForm) (around : List ℕ) → Knows known e f g
    → AreRoundsKnown known form around
    → highest_shift (own_form form around) (from_slots g (own_slots around)) ≡ highest_shift form (last_at around (last_from e))
highest_own known e f g form around k h =
    sum_of_three _ _ _ _ _ _ (ap (most form.first) (k.each 55 h.root)) (most_own known e f g k (slice_index around 1) form.second h.second)
    (most_own known e f g k (slice_index around 2) form.third h.third)

-- the words that LO and HI leave
abbrev pub least_word : (ℕ → ℕ) → LinearForm → List ℕ → ℕ
least_word e f around = word_of (first_value e f +ℤ lowest_shift f (last_at around (last_from e)))

abbrev pub end_word : (ℕ → ℕ) → LinearForm → List ℕ → ℕ → ℕ
end_word e f around size = word_of (first_value e f +ℤ highest_shift f (last_at around (last_from e)) +ℤ pos size)

pub own_low : (known : ℕ → Bool) (e f g : ℕ → ℕ) (form : LinearForm) (around : List ℕ) → IsForm form → Knows known e f g
    → AreRoundsKnown known form around → low_word e (own_form form around) (from_slots g (own_slots around)) ≡ least_word e form around
own_low known e f g form around fine k h =
    low_is e (own_form form around) (from_slots g (own_slots around)) (first_value e form) (own_is_form form around fine)
    (start_alike e form fine)
    ∙ ap (λ y. word_of (first_value e form +ℤ y)) (lowest_own known e f g form around k h)

-- the same before the bytes are added
pub own_raised : (known : ℕ → Bool) (e f g : ℕ → ℕ) (form : LinearForm) (around : List ℕ) → IsForm form → Knows known e f g
    → AreRoundsKnown known form around
    → raised_word e (own_form form around) (from_slots g (own_slots around)) ≡ word_of (first_value e form +ℤ highest_shift form (last_at around (last_from e)))
own_raised known e f g form around fine k h =
    let own = own_form form around in
    let x = from_slots g (own_slots around) in
    word_is _ _ (raised_below e own x (own_is_form form around fine))
    (raised_alike e own x (first_value e form) (own_is_form form around fine) (start_alike e form fine))
    ∙ ap (λ y. word_of (first_value e form +ℤ y)) (highest_own known e f g form around k h)
  where
    raised_below : (e : ℕ → ℕ) (f : LinearForm) (x : ℕ → ℕ) → IsForm f → raised_word e f x < 2 ^ 64
    raised_below e f x fine =
        let n = value_of e f.constant f.terms in
        let n1 = cond (int_lt (pos 0) f.first) (added n f.first (x 0)) n in
        let n2 = cond (int_lt (pos 0) f.second) (added n1 f.second (x 1)) n1 in
        let b1 = either_below (int_lt (pos 0) f.first) (added n f.first (x 0)) n (added_below n f.first (x 0)) (sum_below e f fine) in
        let b2 = either_below (int_lt (pos 0) f.second) (added n1 f.second (x 1)) n1 (added_below n1 f.second (x 1)) b1 in
        either_below (int_lt (pos 0) f.third) (added n2 f.third (x 2)) n2 (added_below n2 f.third (x 2)) b2

-- and with them
pub end_is : (z : ℤ) (size : ℕ) → (word_of z + size) % 2 ^ 64 ≡ word_of (z +ℤ pos size)
end_is z size = word_is _ _ (reduced (word_of z + size)) (more_alike (word_of z) z size (word_alike z))

-- signed, where the form begins below 2 ^ 31 and the last turn numbers are below it
long_low : (v : ℕ) (y : ℤ) → v < 2 ^ 31 → (negsuc (3 * 2 ^ 61 - 1) ≤ℤ y) × (y ≤ℤ pos 0) → IsLong (pos v +ℤ y)
long_low v y h b = let p = b.0 in let q = b.1 in (omega (arith, ints), omega (arith, ints))

long_high : (v size : ℕ) (y : ℤ) → v < 2 ^ 31 → size ≤ 8 → (pos 0 ≤ℤ y) × (y ≤ℤ pos (3 * 2 ^ 61)) → IsLong (pos v +ℤ (y +ℤ pos size))
long_high v size y h k b = let p = b.0 in let q = b.1 in (omega (arith, ints), omega (arith, ints))

last_low : (e : ℕ → ℕ) (place : ℕ) → All (λ n. n < 2 ^ 31) (last_from e) → last_pass (last_from e) place < 2 ^ 31
last_low e zero h = omega arith
last_low e (suc zero) h = h 1 0 (omega arith)
last_low e (suc (suc zero)) h = h 2 0 (omega arith)
last_low e (suc (suc (suc zero))) h = h 3 0 (omega arith)
last_low e (suc (suc (suc (suc n)))) h = omega arith

pub own_shifts : (e : ℕ → ℕ) (form : LinearForm) (around : List ℕ) → IsBounded form → All (λ n. n < 2 ^ 31) (last_from e)
    → AreShifts form (last_at around (last_from e)) (lowest_shift form (last_at around (last_from e)), highest_shift form (last_at around (last_from e)))
own_shifts e form around b h =
    shifts_of form (last_at around (last_from e)) b (h 0 0 (omega arith)) (last_low e (slice_index around 1) h)
    (last_low e (slice_index around 2) h)

plus_assoc : (x y z : ℤ) → x +ℤ y +ℤ z ≡ x +ℤ (y +ℤ z)
plus_assoc x y z = omega (arith, ints)

pub width_small : (width : Width) → bytes_of width ≤ 8
width_small One = omega arith
width_small Two = omega arith
width_small Four = omega arith
width_small Eight = omega arith

-- the word of the first value
pub start_is_word : (e : ℕ → ℕ) (f : LinearForm) → start_value f (words e) ≡ word_of (first_value e f)
unfolding start_value
start_is_word e f = refl

pub least_signed : (e : ℕ → ℕ) (a : Access) → IsForm a.form → All (λ n. n < 2 ^ 31) (last_from e) → start_value a.form (words e) < 2 ^ 31
    → signed64 (least_word e a.form a.around) ≡ (whole_range a (pos (start_value a.form (words e))) (last_from e)).0
least_signed e a fine low h =
    let z = first_value e a.form in
    let y = lowest_shift a.form (last_at a.around (last_from e)) in
    let v = word_of z in
    let same = start_is_word e a.form in
    let small : v < 2 ^ 31 = subst (λ n. n < 2 ^ 31) same h in
    sum_signed z y (pos v) (word_alike z) (long_low v y small (own_shifts e a.form a.around fine.bounded low).falls)
    ∙ ap (λ n. pos n +ℤ y) (sym same)

pub end_signed : (e : ℕ → ℕ) (a : Access) → IsForm a.form → All (λ n. n < 2 ^ 31) (last_from e) → start_value a.form (words e) < 2 ^ 31
    → signed64 (end_word e a.form a.around (bytes_of a.width)) ≡ (whole_range a (pos (start_value a.form (words e))) (last_from e)).1
end_signed e a fine low h =
    let z = first_value e a.form in
    let y = highest_shift a.form (last_at a.around (last_from e)) in
    let n = bytes_of a.width in
    let v = word_of z in
    let same = start_is_word e a.form in
    let small : v < 2 ^ 31 = subst (λ m. m < 2 ^ 31) same h in
    ap (λ x. signed64 (word_of x)) (plus_assoc z y (pos n))
    ∙ sum_signed z (y +ℤ pos n) (pos v) (word_alike z)
    (long_high v n y small (width_small a.width) (own_shifts e a.form a.around fine.bounded low).rises)
    ∙ sym (plus_assoc (pos v) y (pos n))
    ∙ ap (λ m. pos m +ℤ y +ℤ pos n) (sym same)
