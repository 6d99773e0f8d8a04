-- The words of the pair test are the pair test over integers.
use Rattle.std.proofs.Common.{◌≡◌, ℕ, zero, suc, ◌-◌, ◌%◌, ◌^◌, ◌<◌, ◌≤◌, refl, sym, ap, ◌∙◌, arith, ℤ, pos, negsuc, Bool, true, false, ◌⊎◌, inl, inr}
use Rattle.std.specs.Prelude.{◌==◌, ◌&&◌, ◌||◌, nat_le, if◌then◌else◌}
use Rattle.std.specs.Int.{w64, cast_unsigned, cast_signed, int_rem_euclid}
use Rattle.std.specs.Int.RustNames.{unsigned_abs}
use Rattle.std.proofs.lemmas.Int.{ints}
use Rattle.std.proofs.lemmas.Bool.Decides.{nat_tests}
use Rattle.std.proofs.lemmas.Bool.{cases_lt}
use Rattle.std.proofs.Math.Nat.{suc-mod, mod-lt, mod_self, mod-eq_of_lt}
use lib.IntN.{neg_ℤ}
use Rattle.rv64_decode.specs.Row.{alu, alu_imm, taken}
use Rattle.rv64_decode.specs.declared.instr.AluOp.TheVariants.{Add, Sub, Rem}
use Rattle.rv64_decode.specs.declared.instr.ImmOp.TheVariants.{Addi}
use Rattle.rv64_decode.specs.declared.instr.BranchOp.TheVariants.{Blt, Bge}
use Rattle.check_numbers.specs.PairWords.{near_words, residue_words}
use Rattle.check_numbers.proofs.Words.{signed_low, signed_high, bge_is, chosen, down_bits}

zero_test : (g : ℕ) → 0 < g → (g == 0) ≡ false
zero_test g h = grind (arith, nat_tests)

rem_up : (c g : ℕ) → c < 2 ^ 31 → 0 < g → g < 2 ^ 31 → alu Rem c g ≡ c % g
rem_up c g h p k =
    let m = mod-lt c p in
    rw (zero_test g p, signed_low c (omega arith), signed_low g (omega arith)) (omega (arith, ints, m))

rem_down : (k g : ℕ) → suc k < 2 ^ 31 → 0 < g → g < 2 ^ 31 → alu Rem (2 ^ 64 - suc k) g ≡ cast_unsigned w64 (neg_ℤ (pos (suc k % g)))
rem_down k g h p q =
    let s : cast_signed w64 (2 ^ 64 - suc k) ≡ negsuc k = signed_high (2 ^ 64 - suc k) (omega arith) ∙ ap negsuc (omega arith) in
    rw (zero_test g p, s, signed_low g (omega arith)) refl

-- the residue of a negative number
euclid_down : (k g : ℕ) → 0 < g → ((suc k % g ≡ 0) × (g - 1 - k % g ≡ 0)) ⊎ ((0 < suc k % g) × (g - 1 - k % g ≡ g - suc k % g))
euclid_down k g p = by_last (cases_lt (suc (k % g)) g)
  where
    by_last : (suc (k % g) < g) ⊎ (g ≤ suc (k % g)) → ((suc k % g ≡ 0) × (g - 1 - k % g ≡ 0)) ⊎ ((0 < suc k % g) × (g - 1 - k % g ≡ g - suc k % g))
    by_last (inl a) = let e = suc-mod k g ∙ mod-eq_of_lt a in inr (omega (arith, e), omega (arith, e))
    by_last (inr b) =
        let m = mod-lt k p in
        let f : suc (k % g) ≡ g = omega (arith, b, m) in
        let e = suc-mod k g ∙ ap (λ x. x % g) f ∙ mod_self g in
        inl (e, omega (arith, f))

near_is : (r g n : ℕ) (further : Bool) → r ≤ g → g < 2 ^ 31 → n < 2 ^ 31 → near_words r g (alu_imm Addi 0 (pos n)) further ≡ (nat_le n r && nat_le n (g - r) || further)
near_is r g n further h k l =
    let v : alu_imm Addi 0 (pos n) ≡ n = omega (arith, ints) in
    let s : alu Sub g r ≡ g - r = omega arith in
    ap (λ x. near_words r g x further) v ∙ ap (λ x. if taken Blt r n then further else (taken Bge x n || further)) s
    ∙ chosen r n (g - r) n further (omega arith) (omega arith) (omega arith) (omega arith)

step_test : (c g n : ℕ) (further : Bool) (r : ℕ) (t : Bool) (x : ℕ) → alu Rem c g ≡ r → taken Bge r 0 ≡ t → (if t then r else alu Add r g) ≡ x → x ≤ g → g < 2 ^ 31 → n < 2 ^ 31 → residue_words c g (pos n) further ≡ (nat_le n x && nat_le n (g - x) || further)
step_test c g n further r true x a b e h k l =
    ap (λ r. if taken Bge r 0 then near_words r g (alu_imm Addi 0 (pos n)) further else near_words (alu Add r g) g (alu_imm Addi 0 (pos n)) further) a
    ∙ ap (λ t. if t then near_words r g (alu_imm Addi 0 (pos n)) further else near_words (alu Add r g) g (alu_imm Addi 0 (pos n)) further) b
    ∙ ap (λ r. near_words r g (alu_imm Addi 0 (pos n)) further) e ∙ near_is x g n further h k l
step_test c g n further r false x a b e h k l =
    ap (λ r. if taken Bge r 0 then near_words r g (alu_imm Addi 0 (pos n)) further else near_words (alu Add r g) g (alu_imm Addi 0 (pos n)) further) a
    ∙ ap (λ t. if t then near_words r g (alu_imm Addi 0 (pos n)) further else near_words (alu Add r g) g (alu_imm Addi 0 (pos n)) further) b
    ∙ ap (λ r. near_words r g (alu_imm Addi 0 (pos n)) further) e ∙ near_is x g n further h k l

up_taken : (r : ℕ) → r < 2 ^ 63 → taken Bge r 0 ≡ true
up_taken r h = bge_is r 0 h (omega arith) ∙ grind (arith, nat_tests)

down_taken : (r : ℕ) → 2 ^ 63 ≤ r → taken Bge r 0 ≡ false
down_taken r h = rw (signed_high r h) refl

neg_word : (q : ℕ) → 0 < q → q < 2 ^ 31 → cast_unsigned w64 (neg_ℤ (pos q)) ≡ 2 ^ 64 - q
neg_word zero h k = absurd (omega arith)
neg_word (suc q) h k = omega (arith, ints)

-- Residue in words is Residue with the remainder that is not negative
pub residue_is : (z : ℤ) (c g n : ℕ) (further : Bool) → c ≡ cast_unsigned w64 z → unsigned_abs z < 2 ^ 31 → 0 < g → g < 2 ^ 31 → n < 2 ^ 31
    → residue_words c g (pos n) further ≡ (nat_le n (unsigned_abs (int_rem_euclid z (pos g))) && nat_le n (g - unsigned_abs (int_rem_euclid z (pos g))) || further)
residue_is (pos k) c g n further e h p q l =
    let s : c ≡ k = e ∙ omega (arith, ints) in
    let m = mod-lt k p in
    step_test c g n further (k % g) true (k % g) (ap (λ c. alu Rem c g) s ∙ rem_up k g h p q) (up_taken (k % g) (omega (arith, m))) refl (omega (arith, m)) q l
residue_is (negsuc k) c g n further e h p q l = by_last (euclid_down k g p)
  where
    word : alu Rem c g ≡ cast_unsigned w64 (neg_ℤ (pos (suc k % g)))
    word = ap (λ c. alu Rem c g) (e ∙ down_bits k h) ∙ rem_down k g h p q

    by_last : ((suc k % g ≡ 0) × (g - 1 - k % g ≡ 0)) ⊎ ((0 < suc k % g) × (g - 1 - k % g ≡ g - suc k % g)) → residue_words c g (pos n) further ≡ (nat_le n (g - 1 - k % g) && nat_le n (g - (g - 1 - k % g)) || further)
    by_last (inl a) = step_test c g n further 0 true (g - 1 - k % g) (word ∙ ap (λ x. cast_unsigned w64 (neg_ℤ (pos x))) a.0) refl (sym a.1) (omega arith) q l
    by_last (inr b) =
        let m = mod-lt (suc k) p in
        let r = 2 ^ 64 - suc k % g in
        step_test c g n further r false (g - 1 - k % g) (word ∙ neg_word (suc k % g) b.0 (omega (arith, m))) (down_taken r (omega (arith, m))) (let f = b.1 in let z = b.0 in omega (arith, m, f, z)) (omega arith) q l
