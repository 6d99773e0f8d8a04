-- A number in two parts.
use Rattle.std.proofs.Common.{◌≡◌, ℕ, ◌+◌, ◌-◌, ◌*◌, ◌/◌, ◌%◌, ◌^◌, ◌<◌, ◌≤◌, refl, ap, ◌∙◌, arith, ℤ, Bool, true, false, cond, ◌⊎◌}
use Rattle.std.specs.Prelude.{nat_lt}
use Rattle.std.specs.Int.{w64, cast_unsigned}
use Rattle.std.proofs.lemmas.Bool.Decides.{nat_tests}
use Rattle.std.proofs.lemmas.Int.{ints}
use Rattle.rv64_decode.specs.Fields.{signed_by}
use Rattle.rv64_decode.specs.declared.instr.ImmOp.TheVariants.{Addiw}
use Rattle.rv64_decode.specs.Row.{alu_imm, extended32, low32}
use Rattle.check_numbers.specs.Parts.{bits, low_part, high_part}
use Rattle.check_numbers.specs.Sums.{IsShort}

-- a number below 2 * half, made signed and brought to 64 bits
signed_bits : (half n : ℕ) → half ≤ 2 ^ 31 → n < 2 * half → cast_unsigned w64 (signed_by half n) ≡ cond (nat_lt n half) n (n + 2 ^ 64 - 2 * half)
signed_bits half n a b = grind (arith, nat_tests)

-- a sign-extended number of 32 bits is that number in 64 bits
low_is : (n : ℕ) → n < 2 ^ 32 → extended32 n ≡ cond (nat_lt n (2 ^ 31)) n (n + 2 ^ 64 - 2 ^ 32)
low_is n a = grind (arith, nat_tests)

-- the 64 bits of a number of 32 bits
abbrev Small32 : ℕ → Type 0
Small32 n = (n < 2 ^ 31) ⊎ ((2 ^ 64 - 2 ^ 31 ≤ n) × (n < 2 ^ 64))

bits_of_small : (v : ℤ) → IsShort v → Small32 (bits v)
bits_of_small v h = let a = h.0 in let b = h.1 in grind (arith, ints, a, b)

low_signed : (half n : ℕ) → half ≤ 2 ^ 31 → n < 2 * half → low32 (cast_unsigned w64 (signed_by half n)) ≡ cond (nat_lt n half) n (n + 2 ^ 32 - 2 * half)
low_signed half n a b = grind (arith, nat_tests)

sum_is : (n : ℕ) → ((n + 2 ^ 11) / 2 ^ 12 * 2 ^ 12 % 2 ^ 32 + cond (nat_lt (n % 2 ^ 12) (2 ^ 11)) (n % 2 ^ 12) (n % 2 ^ 12 + 2 ^ 32 - 2 * 2 ^ 11)) % 2 ^ 32 ≡ n % 2 ^ 32
sum_is n = grind (arith, nat_tests)

high_same : (t : Bool) (h : ℕ) → cond t h (h + 2 ^ 32 - 2 * 2 ^ 31) ≡ h
high_same true h = refl
high_same false h = omega arith

again : (n : ℕ) → Small32 n → extended32 (n % 2 ^ 32) ≡ n
again n h = let a = low_is (n % 2 ^ 32) (omega arith) in grind (arith, nat_tests, a)

pub parts : (v : ℤ) → IsShort v → alu_imm Addiw (bits (high_part v)) (low_part v) ≡ bits v
parts v h =
    let n = bits v in
    let m = (n + 2 ^ 11) / 2 ^ 12 * 2 ^ 12 % 2 ^ 32 in
    let a = low_signed (2 ^ 31) m (omega arith) (omega arith) ∙ high_same (nat_lt m (2 ^ 31)) m in
    let b = low_signed (2 ^ 11) (n % 2 ^ 12) (omega arith) (omega arith) in
    ap (λ x. extended32 ((x + low32 (bits (low_part v))) % 2 ^ 32)) a
    ∙ ap (λ x. extended32 ((m + x) % 2 ^ 32)) b
    ∙ ap extended32 (sum_is n)
    ∙ again n (bits_of_small v h)
