-- An instruction on words of 32 bits gives its form's value where that is a number of 32 bits.
use Rattle.std.proofs.Common.{◌≡◌, ℕ, suc, ◌+◌, ◌-◌, ◌*◌, ◌/◌, ◌%◌, ◌^◌, ◌<◌, ◌≤◌, Bool, true, false, refl, ap, sym, ◌∙◌, subst, arith, nat_lt, pos, negsuc, ℤ, ◌+ℤ◌, ◌-ℤ◌, ◌*ℤ◌, ◌≤ℤ◌}
use Rattle.std.proofs.lemmas.Int.{ints}
use Rattle.std.proofs.lemmas.Nat.{mul-mod, mul-mod_first}
use Rattle.std.proofs.lemmas.Bool.Decides.{nat_tests}
use Rattle.std.specs.Int.{w64, cast_unsigned}
use Rattle.rv64_decode.specs.declared.instr.AluOp.TheVariants.{Addw, Subw, Sllw}
use Rattle.rv64_decode.specs.Form.{IsSigned}
use Rattle.rv64_decode.specs.Row.{extended32, low32, signed32, signed64, alu}
use Rattle.linear_forms.specs.Forms.{Alike, word_of}
use Rattle.linear_forms.proofs.Sums.{same, alike_from, alike_trans, alike_sym, word_alike, word_below}
use Rattle.loop_data.specs.Facts.{short_of, signed_of}
use Rattle.loop_data.specs.Executing.{IsOf32Bits}

-- a number of 32 bits, sign-extended, is the signed one that it is the same as modulo 2 ^ 32
extended_is : (n : ℕ) (s k : ℤ) → n < 2 ^ 32 → negsuc (2 ^ 31 - 1) ≤ℤ s → s ≤ℤ pos (2 ^ 31 - 1) → pos n ≡ s +ℤ k *ℤ pos (2 ^ 32) → Alike (pos (extended32 n)) s
extended_is n s k lt lo hi e = go (nat_lt n (2 ^ 31)) refl
  where
    go : (b : Bool) → nat_lt n (2 ^ 31) ≡ b → Alike (pos (extended32 n)) s
    go true f =
        let a : n < 2 ^ 31 = grind (arith, nat_tests) in
        let x : extended32 n ≡ n = rw f refl in
        let z : pos n ≡ s = omega (arith, ints) in
        alike_from _ _ (ap pos x ∙ z)
    go false f =
        let a : 2 ^ 31 ≤ n = grind (arith, nat_tests) in
        let x : extended32 n ≡ 2 ^ 64 - suc (2 ^ 32 - suc n) = rw f refl in
        let z : pos n ≡ s +ℤ pos (2 ^ 32) = omega (arith, ints) in
        record { turns = pos 1; is = ap pos x ∙ omega (arith, ints) }

-- a number, cut to 32 bits and sign-extended, is the same as it where that has 32 bits
pub extended_low : (n : ℕ) (z : ℤ) → Alike (pos n) z → IsOf32Bits z → Alike (pos (extended32 (low32 n))) z
extended_low n z a s =
    let b = alike_trans _ _ _ a s.same in
    let bt = b.is in
    let lo = (s.signed).0 in
    let hi = (s.signed).1 in
    let k = extended_is (low32 n) s.number (b.turns *ℤ pos (2 ^ 32) -ℤ pos (n / 2 ^ 32)) (omega arith) lo hi (omega (arith, ints)) in
    alike_trans _ _ _ k (alike_sym _ _ s.same)

-- the rows for 32 bits are the plain ones, cut
pub addw_is : (a b : ℕ) → alu Addw a b ≡ extended32 (low32 (a + b))
addw_is a b = let e : (low32 a + low32 b) % 2 ^ 32 ≡ low32 (a + b) = omega arith in ap extended32 e

pub subw_is : (a b : ℕ) → b ≤ 2 ^ 64 → alu Subw a b ≡ extended32 (low32 (a + (2 ^ 64 - b)))
subw_is a b le = let e : (low32 a + (2 ^ 32 - low32 b)) % 2 ^ 32 ≡ low32 (a + (2 ^ 64 - b)) = omega arith in ap extended32 e

pub low_product : (a b : ℕ) → low32 (low32 a * low32 b) ≡ low32 (a * b)
low_product a b = sym (mul-mod a b (2 ^ 32))

pub sllw_is : (a b : ℕ) → alu Sllw a b ≡ extended32 (low32 (a * 2 ^ (b % 32)))
sllw_is a b = ap extended32 (mul-mod_first a (2 ^ (b % 32)) (2 ^ 32))

-- an immediate as a word
pub alike_word : (z : ℤ) → IsSigned 32 z → Alike (pos (cast_unsigned w64 z)) z
alike_word (pos n) h = same (pos n)
alike_word (negsuc n) h = let a = h.0 in record { turns = pos 1; is = omega (arith, ints) }

low_same : (n m : ℕ) → Alike (pos n) (pos m) → low32 n ≡ low32 m
low_same n m p = let e = p.is in let k = p.turns in omega (arith, ints)

signed_short : (n : ℕ) → IsSigned 32 (signed32 n)
signed_short n = (omega (arith, ints), omega (arith, ints))

-- a number that is cut to 32 bits and sign-extended is the integer's short one
pub extended_short : (n : ℕ) (z : ℤ) → Alike (pos n) z → Alike (pos (extended32 (low32 n))) (short_of z)
extended_short n z p =
    let e : low32 n ≡ low32 (word_of z) = low_same n (word_of z) (alike_trans _ _ _ p (alike_sym _ _ (word_alike z))) in
    subst (λ m. Alike (pos (extended32 m)) (short_of z)) (sym e) (alike_word (short_of z) (signed_short (word_of z)))

-- a word as a signed number
alike_signed : (n : ℕ) → n < 2 ^ 64 → Alike (signed64 n) (pos n)
alike_signed n lt = go (nat_lt n (2 ^ 63)) refl
  where
    go : (b : Bool) → nat_lt n (2 ^ 63) ≡ b → Alike (signed64 n) (pos n)
    go true f = let x : signed64 n ≡ pos n = rw f refl in alike_from _ _ x
    go false f =
        let x : signed64 n ≡ negsuc (2 ^ 64 - suc n) = rw f refl in
        record { turns = negsuc 0; is = x ∙ omega (arith, ints) }

pub alike_signed_of : (z : ℤ) → Alike (signed_of z) z
alike_signed_of z = alike_trans _ _ _ (alike_signed (word_of z) (word_below z)) (word_alike z)
