-- The word of a sum as a signed number.
use Rattle.std.proofs.Common.{◌≡◌, ℕ, ◌+◌, ◌-◌, ◌%◌, ◌^◌, ◌<◌, refl, ap, ◌∙◌, arith, ℤ, pos, negsuc, ◌+ℤ◌, cond}
use Rattle.std.specs.Prelude.{◌==◌, ◌&&◌, nat_lt, int_lt, int_le}
use Rattle.std.proofs.lemmas.Int.{ints}
use Rattle.std.proofs.lemmas.Bool.Decides.{nat_tests}
use Rattle.rv64_decode.specs.Row.{alu_imm, extended32, signed64}
use Rattle.rv64_decode.specs.declared.instr.ImmOp.TheVariants.{Addiw}
use Rattle.linear_forms.specs.Forms.{Alike, word_of}
use Rattle.linear_forms.proofs.Sums.{alike_from, alike_trans, alike_add, alike_sym, word_is, word_alike, word_below}
use Rattle.check_numbers.specs.Sums.{IsLong}

signed_word : (z : ℤ) → IsLong z → signed64 (word_of z) ≡ z
signed_word (pos n) h = let b = h.1 in grind (arith, ints, nat_tests, b)
signed_word (negsuc n) h = let a = h.0 in grind (arith, ints, nat_tests, a)

pub sum_signed : (x y z : ℤ) → Alike z x → IsLong (z +ℤ y) → signed64 (word_of (x +ℤ y)) ≡ z +ℤ y
sum_signed x y z a h =
    let b = alike_add _ _ _ _ (alike_sym _ _ a) (alike_from y y refl) in
    let same : word_of (x +ℤ y) ≡ word_of (z +ℤ y) = word_is (word_of (x +ℤ y)) (z +ℤ y) (word_below (x +ℤ y)) (alike_trans _ _ _ (word_alike (x +ℤ y)) b) in
    ap signed64 same ∙ signed_word (z +ℤ y) h

low_is : (n : ℕ) → n < 2 ^ 32 → extended32 n ≡ cond (nat_lt n (2 ^ 31)) n (n + 2 ^ 64 - 2 ^ 32)
low_is n a = grind (arith, nat_tests)

-- a word is its low 32 bits, sign-extended, exactly where it is a signed number of 32 bits
pub short_word : (v : ℕ) → v < 2 ^ 64 → (v == alu_imm Addiw v (pos 0)) ≡ (int_le (negsuc (2 ^ 31 - 1)) (signed64 v) && int_lt (signed64 v) (pos (2 ^ 31)))
short_word v h =
    let q : (v % 2 ^ 32 + 0) % 2 ^ 32 ≡ v % 2 ^ 32 = omega arith in
    let w : alu_imm Addiw v (pos 0) ≡ cond (nat_lt (v % 2 ^ 32) (2 ^ 31)) (v % 2 ^ 32) (v % 2 ^ 32 + 2 ^ 64 - 2 ^ 32) = ap extended32 q ∙ low_is (v % 2 ^ 32) (omega arith) in
    ap (λ x. v == x) w ∙ last
  where
    last : (v == cond (nat_lt (v % 2 ^ 32) (2 ^ 31)) (v % 2 ^ 32) (v % 2 ^ 32 + 2 ^ 64 - 2 ^ 32)) ≡ (int_le (negsuc (2 ^ 31 - 1)) (signed64 v) && int_lt (signed64 v) (pos (2 ^ 31)))
    last = grind (arith, ints, nat_tests)
