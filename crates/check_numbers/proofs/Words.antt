-- The words of the pair test as integers.
use Rattle.std.proofs.Common.{◌≡◌, ℕ, suc, ◌-◌, ◌^◌, ◌<◌, ◌≤◌, refl, ap, ◌∙◌, arith, ℤ, pos, negsuc, Bool, true, false}
use Rattle.std.specs.Prelude.{◌-ℤ◌, ◌&&◌, ◌||◌, not, nat_lt, nat_le, if◌then◌else◌, bit_xor}
use Rattle.std.specs.Int.{w64, cast_unsigned, cast_signed}
use Rattle.std.specs.Int.RustNames.{unsigned_abs}
use Rattle.std.specs.Int.Bits.{xor_add_and, xor_zero_r}
use Rattle.std.proofs.lemmas.Nat.{and_mask}
use Rattle.std.proofs.lemmas.Int.{ints}
use Rattle.std.proofs.lemmas.Bool.Decides.{nat_tests}
use Rattle.rv64_decode.specs.Row.{alu, alu_imm, taken}
use Rattle.rv64_decode.specs.declared.instr.AluOp.TheVariants.{Sub, Xor}
use Rattle.rv64_decode.specs.declared.instr.ImmOp.TheVariants.{Srai}
use Rattle.rv64_decode.specs.declared.instr.BranchOp.TheVariants.{Blt, Bge}
use Rattle.check_numbers.specs.PairWords.{difference, size_word}

-- the difference of addresses below 2 ^ 31
abbrev pub gap : ℕ → ℕ → ℤ
gap a b = pos b -ℤ pos a

pub signed_low : (n : ℕ) → n < 2 ^ 63 → cast_signed w64 n ≡ pos n
signed_low n h = grind (arith, nat_tests)

pub signed_high : (n : ℕ) → 2 ^ 63 ≤ n → cast_signed w64 n ≡ negsuc (2 ^ 64 - suc n)
signed_high n h = grind (arith, nat_tests)

xor_ones : (c : ℕ) → c < 2 ^ 64 → bit_xor c (2 ^ 64 - 1) ≡ 2 ^ 64 - 1 - c
xor_ones c h = let a = xor_add_and c (2 ^ 64 - 1) in let b = and_mask c 64 in omega (arith, a, b)

-- the size of a difference whose size is below 2 ^ 31
pub size_up : (c : ℕ) → c < 2 ^ 31 → size_word c ≡ c
size_up c h =
    let s : alu_imm Srai c (pos 63) ≡ 0 = rw (signed_low c (omega arith)) (omega arith) in
    ap (λ s. alu Sub (alu Xor c s) s) s ∙ ap (λ x. alu Sub x 0) (xor_zero_r c) ∙ omega arith

pub size_down : (c k : ℕ) → k < 2 ^ 31 → c ≡ 2 ^ 64 - suc k → size_word c ≡ suc k
size_down c k h e =
    let s : alu_imm Srai c (pos 63) ≡ 2 ^ 64 - 1 = rw (signed_high c (omega arith)) (omega arith) in
    let x : alu Xor c (2 ^ 64 - 1) ≡ k = xor_ones c (omega arith) ∙ omega arith in
    ap (λ s. alu Sub (alu Xor c s) s) s ∙ ap (λ x. alu Sub x (2 ^ 64 - 1)) x ∙ omega arith

pub bge_is : (a b : ℕ) → a < 2 ^ 63 → b < 2 ^ 63 → taken Bge a b ≡ nat_le b a
bge_is a b h k = rw (signed_low a h, signed_low b k) (grind (arith, nat_tests, ints))

pub blt_is : (a b : ℕ) → a < 2 ^ 63 → b < 2 ^ 63 → taken Blt a b ≡ nat_lt a b
blt_is a b h k = rw (signed_low a h, signed_low b k) (grind (arith, nat_tests, ints))

pub not_less : (a b : ℕ) → nat_lt a b ≡ not (nat_le b a)
not_less a b = grind (arith, nat_tests)

two_tests : (t u further : Bool) → (if not t then further else (u || further)) ≡ (t && u || further)
two_tests true u further = refl
two_tests false u further = refl

-- two tests, the first of which leads on where it fails
pub chosen : (a b x y : ℕ) (further : Bool) → a < 2 ^ 63 → b < 2 ^ 63 → x < 2 ^ 63 → y < 2 ^ 63 → (if taken Blt a b then further else (taken Bge x y || further)) ≡ (nat_le b a && nat_le y x || further)
chosen a b x y further ha hb hx hy =
    ap (λ t. if t then further else (taken Bge x y || further)) (blt_is a b ha hb ∙ not_less a b)
    ∙ ap (λ u. if not (nat_le b a) then further else (u || further)) (bge_is x y hx hy)
    ∙ two_tests (nat_le b a) (nat_le y x) further

pub difference_is : (a b : ℕ) → a < 2 ^ 31 → b < 2 ^ 31 → difference a b ≡ cast_unsigned w64 (gap a b)
difference_is a b h k = omega (arith, ints)

pub gap_small : (a b : ℕ) → a < 2 ^ 31 → b < 2 ^ 31 → unsigned_abs (gap a b) < 2 ^ 31
gap_small a b h k = grind (arith, ints)

pub down_bits : (k : ℕ) → suc k < 2 ^ 31 → cast_unsigned w64 (negsuc k) ≡ 2 ^ 64 - suc k
down_bits k h = omega (arith, ints)

pub size_is : (z : ℤ) (c : ℕ) → c ≡ cast_unsigned w64 z → unsigned_abs z < 2 ^ 31 → size_word c ≡ unsigned_abs z
size_is (pos k) c e h = let s : c ≡ k = e ∙ omega (arith, ints) in size_up c (omega arith) ∙ s
size_is (negsuc k) c e h = size_down c k (omega arith) (e ∙ down_bits k h)
