-- The words that test a duty: their test, and that it is the test over integers.
use Rattle.std.proofs.Common.{◌≡◌, ℕ, suc, ◌-◌, ◌*◌, ◌^◌, ◌<◌, refl, sym, ap, ◌∙◌, arith, ℤ, pos, negsuc, ◌+ℤ◌, ◌≤ℤ◌, Bool, true, false, List, [], ◌∷◌, ◌++◌}
use Rattle.std.specs.Prelude.{◌==◌, ◌&&◌, not, nat_lt, int_lt, int_le}
use Rattle.std.specs.Int.{w64, cast_signed}
use Rattle.std.specs.List.{All}
use Rattle.std.proofs.lemmas.Int.{ints}
use Rattle.std.proofs.lemmas.Bool.Decides.{nat_tests}
use Rattle.rv64_decode.specs.Row.{alu_imm, taken, signed64}
use Rattle.rv64_decode.specs.declared.instr.ImmOp.TheVariants.{Addiw}
use Rattle.rv64_decode.specs.declared.instr.BranchOp.TheVariants.{Beq, Bge}
use Rattle.rv64_decode.specs.declared.instr.Instr.TheVariants.{AluImm}
use Rattle.rv64_decode.specs.declared.xinstr.XInstr.TheVariants.{Base}
use Rattle.linear_forms.specs.Forms.{LinearForm, Alike, IsForm, word_of}
use Rattle.linear_forms.specs.Extremes.{lowest_shift, highest_shift}
use Rattle.linear_forms.proofs.Sums.{alike_from, alike_trans, word_alike, word_below}
use Rattle.loop_data.specs.declared.equations.Duty.{Duty}
use Rattle.alias_checks.specs.Entry.{start_value}
use Rattle.alias_checks.specs.AccessTests.{last_at, are_short, duty_fits}
use Rattle.stub_laws.specs.Straight.{read}
use Rattle.stub_laws.proofs.Steps.{World}
use Rattle.stub_laws.proofs.Known.{knows_put}
use Rattle.stub_laws.proofs.Tests.{IsTest, both, Known, With, same_test}
use Rattle.check_numbers.specs.Parts.{bits}
use Rattle.check_numbers.specs.Sums.{IsLong, value_of}
use Rattle.check_numbers.proofs.Parts.{parts}
use Rattle.check_numbers.proofs.Signed.{sum_signed, short_word}
use Rattle.check_code.specs.Macros.{form_code, number_code, low_code, high_code, need_code}
use Rattle.check_code.specs.Rounds.{own_slots, own_form, last_from, AreRoundsKnown}
use Rattle.check_code.specs.DutyCode.{least_short, greatest_short, short_code, shorts_code, duty_code}
use Rattle.check_code.proofs.Pieces.{three, knows_three}
use Rattle.check_code.proofs.Values.{constant_short, start_is}
use Rattle.check_code.proofs.Runs.{sum_below}
use Rattle.check_code.proofs.States.{t5, t6, formed, needed, lowered, raised, temps_test, knows_temps, ap2, weaker_after}
use Rattle.check_code.proofs.Extents.{words, first_value, own_is_form, terms_known, least_word, end_word, own_low, own_raised, own_shifts, end_is}

-- the test in words
abbrev pub duty_words : (ℕ → ℕ) → LinearForm → List ℕ → Bool
duty_words e f around =
    (value_of e f.constant f.terms == alu_imm Addiw (value_of e f.constant f.terms) (pos 0))
    && (taken Bge (least_word e f around) (bits least_short) && taken Bge (bits greatest_short) (end_word e f around 0))

module _ (w : World) (known : ℕ → Bool) (e : ℕ → ℕ) where
  -- the numbers from x5 to x6
  shorts_law : (lo hi : ℕ)
      → IsTest w (Known known e) (With 6 hi (With 5 lo (Known known e))) (Known known e) shorts_code
      (taken Bge lo (bits least_short) && taken Bge (bits greatest_short) hi)
  shorts_law lo hi =
      let z = Known known e in
      let t1 = taken Bge lo (bits least_short) in
      let t2 = taken Bge (bits greatest_short) hi in
      let s5 = With 6 hi (With 5 lo z) in
      let s6 = With 7 (bits least_short) s5 in
      let s7 = With 7 (bits greatest_short) s5 in
      let one = number_code 7 least_short in
      let two = number_code 7 greatest_short in
      both w z s5 s6 z one (need_code Bge 5 7 ++ (two ++ need_code Bge 7 6)) true (t1 && t2)
      (temps_test w z s5 s6 one refl
      (λ f g x. (parts least_short (omega (arith, ints), omega (arith, ints)), (x.0, (x.1.0, knows_temps known e one f g refl x.1.1)))))
      (λ h. both w z s6 s6 z (need_code Bge 5 7) (two ++ need_code Bge 7 6) t1 t2
      (needed w z s6 Bge 5 7 t1 (λ f g x. ap2 (read f 5) lo (read f 7) (bits least_short) (taken Bge) x.1.1.0 x.0) (λ f g x. x.1.1.1))
      (λ h. both w z s6 s7 z two (need_code Bge 7 6) true t2
      (temps_test w z s6 s7 two refl
      (λ f g x.
      (parts greatest_short (omega (arith, ints), omega (arith, ints)), (x.1.0, (x.1.1.0, knows_temps known e two f g refl x.1.1.1)))))
      (λ h. weaker_after w z s7 s7 z (need_code Bge 7 6) t2
      (needed w z s7 Bge 7 6 t2 (λ f g x. ap2 (read f 7) (bits greatest_short) (read f 6) hi (taken Bge) x.0 x.1.0) (λ f g x. x.1.1.1))
      (λ f g x. x.1.1.1))))

  duty_run : (form : LinearForm) (around : List ℕ) → IsForm form → AreRoundsKnown known form around
      → IsTest w (Known known e) (Known known e) (Known known e)
      (form_code 5 form
      ++ (short_code
      ++ (low_code 5 (own_form form around)
      (own_slots around) ++ (high_code 6 (own_form form around) (own_slots around) 0 ++ shorts_code)))) (duty_words e form around)
  duty_run form around fine has =
      let z = Known known e in
      let own = own_form form around in
      let slots = own_slots around in
      let v = value_of e form.constant form.terms in
      let lo = least_word e form around in
      let hi = end_word e form around 0 in
      let top = word_of (first_value e form +ℤ highest_shift form (last_at around (last_from e))) in
      let s1 = With 5 v z in
      let s2 = With 6 (alu_imm Addiw v (pos 0)) s1 in
      let s3 = With 5 lo z in
      let s4 = With 6 hi s3 in
      let t = v == alu_imm Addiw v (pos 0) in
      let u = taken Bge lo (bits least_short) && taken Bge (bits greatest_short) hi in
      let one = Base (AluImm Addiw 6 5 (pos 0)) ∷ [] in
      let c4 = high_code 6 own slots 0 ++ shorts_code in
      let c3 = low_code 5 own slots ++ c4 in
      let c2 = need_code Beq 5 6 ++ c3 in
      both w z z s1 z (form_code 5 form) (one ++ c2) true (t && u)
      (formed w known e 5 t5 form.constant form.terms z s1 (constant_short form.constant fine.bounded.constant)
      (terms_known known form fine has.terms) (λ f g x. x) (λ f g p q x. (refl, knows_three known e f g 5 p q _ t5 x)))
      (λ h. both w z s1 s2 z one c2 true (t && u)
      (temps_test w z s1 s2 one refl (λ f g x. (ap (λ y. alu_imm Addiw y (pos 0)) x.0, (x.0, knows_temps known e one f g refl x.1))))
      (λ h. both w z s2 s2 z (need_code Beq 5 6) c3 t u
      (needed w z s2 Beq 5 6 t (λ f g x. ap2 (read f 5) v (read f 6) (alu_imm Addiw v (pos 0)) (taken Beq) x.1.0 x.0) (λ f g x. x.1.1))
      (λ h. both w z s2 s3 z (low_code 5 own slots) c4 true u
      (lowered w known e 5 t5 own slots lo s2 s3 (own_is_form form around fine) (terms_known known form fine has.terms) (λ f g x. x.1.1)
      (λ f g x. own_low known e f g form around fine x.1.1 has) (λ f g p q x. (refl, knows_three known e f g 5 p q _ t5 x.1.1)))
      (λ h. both w z s3 s4 z (high_code 6 own slots 0) shorts_code true u
      (raised w known e 6 t6 own slots 0 top s3 s4 (own_is_form form around fine) (terms_known known form fine has.terms) (λ f g x. x.1)
      (λ f g x. own_raised known e f g form around fine x.1 has)
      (λ f g p q x. (
        end_is (first_value e form +ℤ highest_shift form (last_at around (last_from e))) 0,
        (x.0, knows_put known e (three f 6 p q top) g 6 _ t6.temporary (knows_three known e f g 6 p q top t6 x.1)),
      )))
      (λ h. shorts_law lo hi)))))

-- over integers
ge_is : (a b : ℤ) → not (int_lt a b) ≡ int_le b a
ge_is a b = grind (arith, ints, nat_tests)

below_is : (b : ℤ) → not (int_lt greatest_short b) ≡ int_lt b (pos (2 ^ 31))
below_is b = grind (arith, ints, nat_tests)

short_bounds : (s : ℤ) → (int_le least_short s && int_lt s (pos (2 ^ 31))) ≡ true → (least_short ≤ℤ s) × (s ≤ℤ greatest_short)
short_bounds s h = (grind (arith, ints, nat_tests), grind (arith, ints, nat_tests))

long_low : (s y : ℤ) → (int_le least_short s && int_lt s (pos (2 ^ 31))) ≡ true → (negsuc (3 * 2 ^ 61 - 1) ≤ℤ y) × (y ≤ℤ pos 0)
    → IsLong (s +ℤ y)
long_low s y h b =
    let p = b.0 in let q = b.1 in let r = short_bounds s h in let r0 = r.0 in let r1 = r.1 in
    (omega (arith, ints, p, q, r0, r1), omega (arith, ints, p, q, r0, r1))

long_high : (s y : ℤ) → (int_le least_short s && int_lt s (pos (2 ^ 31))) ≡ true → (pos 0 ≤ℤ y) × (y ≤ℤ pos (3 * 2 ^ 61)) → IsLong (s +ℤ y)
long_high s y h b =
    let p = b.0 in let q = b.1 in let r = short_bounds s h in let r0 = r.0 in let r1 = r.1 in
    (omega (arith, ints, p, q, r0, r1), omega (arith, ints, p, q, r0, r1))

-- a word, read as a signed number
read_alike : (n : ℕ) → n < 2 ^ 64 → Alike (signed64 n) (pos n)
read_alike n h = by_half (nat_lt n (2 ^ 63)) refl
  where
    by_half : (b : Bool) → nat_lt n (2 ^ 63) ≡ b → Alike (signed64 n) (pos n)
    by_half true e = let l : n < 2 ^ 63 = grind (arith, nat_tests) in alike_from _ _ (omega (arith, ints))
    by_half false e =
        let k : cast_signed w64 n ≡ negsuc (2 ^ 64 - suc n) = rw e refl in record { turns = negsuc 0; is = omega (arith, ints) }

start_alike : (z : ℤ) → Alike (signed64 (word_of z)) z
start_alike z = alike_trans _ _ _ (read_alike (word_of z) (word_below z)) (word_alike z)

none_more : (z : ℤ) → z +ℤ pos 0 ≡ z
none_more z = omega (arith, ints)

-- where the ends are short, all between them is
between : (s y x : ℤ) → y ≤ℤ pos 0 → pos 0 ≤ℤ x → (int_le least_short s && int_lt s (pos (2 ^ 31))) ≡ false
    → are_short (s +ℤ y, s +ℤ x) ≡ false
between s y x p q h = grind (arith, ints, nat_tests)

only_then : (t u v : Bool) → (t ≡ true → u ≡ v) → (t ≡ false → v ≡ false) → (t && u) ≡ v
only_then true u v h k = h refl
only_then false u v h k = sym (k refl)

duty_is : (e : ℕ → ℕ) (f : LinearForm) (around : List ℕ) → IsForm f → All (λ n. n < 2 ^ 31) (last_from e)
    → duty_words e f around ≡ are_short (
      signed64 (word_of (first_value e f)) +ℤ lowest_shift f (last_at around (last_from e)),
      signed64
          (word_of (first_value e f)) +ℤ highest_shift f (last_at around (last_from e)),
    )
duty_is e f around fine low =
    let z = first_value e f in
    let v = value_of e f.constant f.terms in
    let s = signed64 (word_of z) in
    let y = lowest_shift f (last_at around (last_from e)) in
    let x = highest_shift f (last_at around (last_from e)) in
    let b = own_shifts e f around fine.bounded low in
    let same = start_is e f fine in
    let t = int_le least_short s && int_lt s (pos (2 ^ 31)) in
    let rest = taken Bge (least_word e f around) (bits least_short) && taken Bge (bits greatest_short) (end_word e f around 0) in
    ap (λ q. q && rest)
    (short_word v (sum_below e f fine) ∙ ap (λ n. int_le least_short (signed64 n) && int_lt (signed64 n) (pos (2 ^ 31))) same)
    ∙ only_then t rest (are_short (s +ℤ y, s +ℤ x))
    (λ h. ap (λ n. not (int_lt n least_short) && taken Bge (bits greatest_short) (end_word e f around 0))
    (sum_signed z y s (start_alike z) (long_low s y h b.falls))
    ∙ ap (λ n. not (int_lt (s +ℤ y) least_short) && not (int_lt greatest_short n))
    (ap (λ n. signed64 (word_of n)) (none_more (z +ℤ x)) ∙ sum_signed z x s (start_alike z) (long_high s x h b.rises))
    ∙ ap (λ q. q && not (int_lt greatest_short (s +ℤ x))) (ge_is (s +ℤ y) least_short)
    ∙ ap (λ q. int_le least_short (s +ℤ y) && q) (below_is (s +ℤ x)))
    (λ h. between s y x b.falls.1 b.rises.0 h)

fits_is : (e : ℕ → ℕ) (d : Duty)
    → duty_fits (words e) (last_from e) d ≡ are_short (
      signed64 (word_of (first_value e d.form)) +ℤ lowest_shift d.form (last_at d.around (last_from e)),
      signed64
          (word_of (first_value e d.form)) +ℤ highest_shift d.form (last_at d.around (last_from e)),
    )
unfolding duty_fits start_value
fits_is e d = refl

-- a duty's words go on where it is met, and to the open target where it is not
pub duty_law : (w : World) (known : ℕ → Bool) (e : ℕ → ℕ) (d : Duty) → IsForm d.form → AreRoundsKnown known d.form d.around
    → All (λ n. n < 2 ^ 31) (last_from e)
    → IsTest w (Known known e) (Known known e) (Known known e) (duty_code d) (duty_fits (words e) (last_from e) d)
duty_law w known e d fine has low =
    same_test w (Known known e) (Known known e) (Known known e) (duty_code d) (duty_words e d.form d.around)
    (duty_fits (words e) (last_from e) d) (duty_is e d.form d.around fine low ∙ sym (fits_is e d))
    (duty_run w known e d.form d.around fine has)
