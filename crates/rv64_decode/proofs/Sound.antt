-- Registers stay words, and bytes stay bytes, whatever the instructions.
use Rattle.std.proofs.Common.{◌≡◌, ◌≢◌, ℕ, zero, suc, ◌+◌, ◌-◌, ◌*◌, ◌/◌, ◌%◌, ◌^◌, ◌<◌, ◌≤◌, List, [], ◌∷◌, length, get_or, set, Bool, true, false, Option, Some, None, Result, Ok, Err, refl, ap, ◌∙◌, arith, if◌then◌else◌, ◌==◌, nat_lt, int_lt, pos, negsuc, ℤ, ◌≤ℤ◌, ◌<ℤ◌}
use Rattle.std.proofs.lemmas.Int.{ints, fits_signed_mul, rem_below}
use Rattle.std.proofs.lemmas.Nat.{xor_lt, or_lt, and_le_l, mul-lt}
use Rattle.std.proofs.lemmas.Bool.Decides.{nat_tests}
use Rattle.std.proofs.lemmas.List.{get_or-set_same, get_or-set_other, length-set}
use Rattle.std.proofs.Math.Nat.{div-le_self}
use Rattle.std.proofs.Math.Seq.{set_out}
use Rattle.std.proofs.Math.Facts.{Fits-of_z}
use native.Mathlib.Decide.{dec_le}
use Rattle.std.specs.Int.{w8, w16, w32, w64, w128, cast_unsigned, cast_signed, int_shr}
use Rattle.std.specs.Int.RustNames.{int_div, int_rem, unsigned_abs, FitsSigned}
use Rattle.rv64_decode.specs.Area.{Area, holds, byte_at, number_at, with_byte, with_number, bytes_of, why, readable_of, writable_of, load_of, or_refusal, unless_refused}
use Rattle.rv64_decode.specs.Ask.{Ask, Nothing, Loads, Stores, answer, after}
use Rattle.rv64_decode.specs.Form.{IsSigned}
use Rattle.rv64_decode.specs.Range.{IsInRange, AreWords, AreBytes}
use Rattle.rv64_decode.specs.Registers.{register, with_register}
use Rattle.rv64_decode.specs.Row.{row, asks, taken, loaded, stored, load_width, jump, onward, stopped, next_pc, alu, register_op, upper, plus_offset, signed64, signed32, low32, extended32, from_test, extended}
use Rattle.rv64_decode.specs.declared.memory.MemFault.{MemFault}
use Rattle.rv64_decode.specs.declared.instr.AluOp.{AluOp}
use Rattle.rv64_decode.specs.declared.instr.AluOp.TheVariants.{Add, Sll, Slt, Sltu, Xor, Srl, Or, And, Sub, Sra, Mul, Mulh, Mulhsu, Mulhu, Div, Divu, Rem, Remu, Addw, Sllw, Srlw, Subw, Sraw, Mulw, Divw, Divuw, Remw, Remuw}
use Rattle.rv64_decode.specs.declared.instr.UpperOp.{UpperOp}
use Rattle.rv64_decode.specs.declared.instr.UpperOp.TheVariants.{Lui, Auipc}
use Rattle.rv64_decode.specs.declared.instr.LoadOp.{LoadOp}
use Rattle.rv64_decode.specs.declared.instr.LoadOp.TheVariants.{Lb, Lh, Lw, Lbu, Lhu, Lwu, Ld}
use Rattle.rv64_decode.specs.declared.instr.Instr.{Instr}
use Rattle.rv64_decode.specs.declared.instr.Instr.TheVariants.{Alu, AluImm, Upper, Load, Store, Branch, Jal, Jalr, Fence, Ecall, Ebreak}
use Rattle.rv64_decode.specs.declared.outcome.Next.TheVariants.{At}
use Rattle.rv64_decode.specs.declared.outcome.Fault.TheVariants.{Target}

unsigned_below : (z : ℤ) → z <ℤ pos (2 ^ 64) → cast_unsigned w64 z < 2 ^ 64
unsigned_below (pos n) l = omega (arith, ints)
unsigned_below (negsuc n) l = omega arith

test_below : (t : Bool) → from_test t < 2 ^ 64
test_below true = omega arith
test_below false = omega arith

signed_range : (a : ℕ) → a < 2 ^ 64 → (negsuc (2 ^ 63 - 1) ≤ℤ cast_signed w64 a) × (cast_signed w64 a <ℤ pos (2 ^ 63))
signed_range a l = (omega (arith, ints), omega (arith, ints))

short_range : (a : ℕ) → (negsuc (2 ^ 31 - 1) ≤ℤ cast_signed w32 (a % 2 ^ 32)) × (cast_signed w32 (a % 2 ^ 32) <ℤ pos (2 ^ 31))
short_range a = (omega (arith, ints), omega (arith, ints))

shr_below : (z : ℤ) (k : ℕ) → z <ℤ pos (2 ^ 63) → int_shr z k <ℤ pos (2 ^ 64)
shr_below (pos n) k l = let d = div-le_self n (2 ^ k) in omega (arith, ints)
shr_below (negsuc n) k l = omega (arith, ints)

abs_below : (z : ℤ) → (negsuc (2 ^ 63 - 1) ≤ℤ z) × (z <ℤ pos (2 ^ 63)) → unsigned_abs z ≤ 2 ^ 63
abs_below (pos n) p = let a = p.1 in omega (arith, ints)
abs_below (negsuc n) p = let a = p.0 in omega (arith, ints)

from_abs : (z : ℤ) → unsigned_abs z < 2 ^ 64 → z <ℤ pos (2 ^ 64)
from_abs (pos n) l = omega (arith, ints)
from_abs (negsuc n) l = omega (arith, ints)

neg_below : (q : ℕ) → int_div (pos q) (negsuc 0) <ℤ pos (2 ^ 64)
neg_below q = omega (arith, ints)

quot_below : (x y : ℤ) → unsigned_abs x ≤ 2 ^ 63 → int_div x y <ℤ pos (2 ^ 64)
quot_below (pos a) (pos b) l = let d = div-le_self a b in omega (arith, ints)
quot_below (pos a) (negsuc b) l = let d = div-le_self a (suc b) in omega (arith, ints)
quot_below (negsuc a) (pos b) l = let d = div-le_self (suc a) b in omega (arith, ints)
quot_below (negsuc a) (negsuc b) l = let d = div-le_self (suc a) (suc b) in omega (arith, ints)

extended_below : (n : ℕ) → extended32 n < 2 ^ 64
extended_below n = unsigned_below (cast_signed w32 n) (omega (arith, ints))

high_below : (n : ℕ) → n < 2 ^ 128 → n / 2 ^ 64 < 2 ^ 64
high_below n l = omega arith

wide_below : (z : ℤ) → FitsSigned w128 z → cast_unsigned w128 z < 2 ^ 128
wide_below z f = (Fits-of_z f).fits

nonzero : (b : ℕ) → b < 2 ^ 64 → b ≢ 0 → 0 < unsigned_abs (cast_signed w64 b)
nonzero b l ne = go (nat_lt b (2 ^ 63)) refl
  where
    go : (c : Bool) → nat_lt b (2 ^ 63) ≡ c → 0 < unsigned_abs (cast_signed w64 b)
    go true e = let k : b < 2 ^ 63 = grind (arith, nat_tests) in let z : cast_signed w64 b ≡ pos b = omega (arith, ints) in let q : unsigned_abs (cast_signed w64 b) ≡ b = ap unsigned_abs z in omega (arith, ne)
    go false e = let z : cast_signed w64 b ≡ negsuc (2 ^ 64 - suc b) = rw e refl in let q : unsigned_abs (cast_signed w64 b) ≡ suc (2 ^ 64 - suc b) = ap unsigned_abs z in omega arith

nonzero32 : (b : ℕ) → b % 2 ^ 32 ≢ 0 → 0 < unsigned_abs (cast_signed w32 (b % 2 ^ 32))
nonzero32 b ne = by (b % 2 ^ 32) (omega arith) ne
  where
    by : (n : ℕ) → n < 2 ^ 32 → n ≢ 0 → 0 < unsigned_abs (cast_signed w32 n)
    by n l ne = go (nat_lt n (2 ^ 31)) refl
      where
        go : (c : Bool) → nat_lt n (2 ^ 31) ≡ c → 0 < unsigned_abs (cast_signed w32 n)
        go true e = let k : n < 2 ^ 31 = grind (arith, nat_tests) in let z : cast_signed w32 n ≡ pos n = omega (arith, ints) in let q : unsigned_abs (cast_signed w32 n) ≡ n = ap unsigned_abs z in omega (arith, ne)
        go false e = let z : cast_signed w32 n ≡ negsuc (2 ^ 32 - suc n) = rw e refl in let q : unsigned_abs (cast_signed w32 n) ≡ suc (2 ^ 32 - suc n) = ap unsigned_abs z in omega arith

mod_le : (a b : ℕ) → a % b ≤ a
mod_le a b = grind arith

alu_below : (op : AluOp) (a b : ℕ) → a < 2 ^ 64 → b < 2 ^ 64 → alu op a b < 2 ^ 64
alu_below Add a b la lb = omega arith
alu_below Sub a b la lb = omega arith
alu_below Sll a b la lb = omega arith
alu_below Slt a b la lb = test_below (int_lt (signed64 a) (signed64 b))
alu_below Sltu a b la lb = test_below (nat_lt a b)
alu_below Xor a b la lb = xor_lt 64 a b la lb
alu_below Srl a b la lb = let d = div-le_self a (2 ^ (b % 64)) in omega arith
alu_below Sra a b la lb = unsigned_below _ (shr_below (signed64 a) (b % 64) (signed_range a la).1)
alu_below Or a b la lb = or_lt 64 a b la lb
alu_below And a b la lb = let d = and_le_l a b in omega arith
alu_below Mul a b la lb = omega arith
alu_below Mulh a b la lb = high_below _ (wide_below _ (fits_signed_mul w128 (signed64 a) (signed64 b) (2 ^ 63) (2 ^ 63) (abs_below _ (signed_range a la)) (abs_below _ (signed_range b lb)) (omega arith)))
alu_below Mulhsu a b la lb = high_below _ (wide_below _ (fits_signed_mul w128 (signed64 a) (pos b) (2 ^ 63) (2 ^ 64 - 1) (abs_below _ (signed_range a la)) (omega arith) (omega arith)))
alu_below Mulhu a b la lb = high_below _ (let k = mul-lt a b (2 ^ 64) (2 ^ 64) la lb in omega arith)
alu_below Div a b la lb = go (b == 0)
  where
    go : (c : Bool) → (if c then 2 ^ 64 - 1 else cast_unsigned w64 (int_div (signed64 a) (signed64 b))) < 2 ^ 64
    go true = omega arith
    go false = unsigned_below (int_div (signed64 a) (signed64 b)) (quot_below (signed64 a) (signed64 b) (abs_below (signed64 a) (signed_range a la)))
alu_below Divu a b la lb = go (b == 0)
  where
    go : (c : Bool) → (if c then 2 ^ 64 - 1 else a / b) < 2 ^ 64
    go true = omega arith
    go false = let d = div-le_self a b in omega arith
alu_below Rem a b la lb = go (b == 0) refl
  where
    go : (c : Bool) → (b == 0) ≡ c → (if c then a else cast_unsigned w64 (int_rem (signed64 a) (signed64 b))) < 2 ^ 64
    go true e = la
    go false e =
        let ne : b ≢ 0 = grind (arith, nat_tests) in
        let r = rem_below (signed64 a) (signed64 b) (nonzero b lb ne) in
        let m = abs_below (signed64 b) (signed_range b lb) in
        unsigned_below (int_rem (signed64 a) (signed64 b)) (from_abs (int_rem (signed64 a) (signed64 b)) (omega arith))
alu_below Remu a b la lb = go (b == 0)
  where
    go : (c : Bool) → (if c then a else a % b) < 2 ^ 64
    go true = la
    go false = let d = mod_le a b in omega arith
alu_below Addw a b la lb = extended_below ((low32 a + low32 b) % 2 ^ 32)
alu_below Subw a b la lb = extended_below ((low32 a + (2 ^ 32 - low32 b)) % 2 ^ 32)
alu_below Sllw a b la lb = extended_below (low32 a * 2 ^ (b % 32) % 2 ^ 32)
alu_below Srlw a b la lb = extended_below (low32 a / 2 ^ (b % 32))
alu_below Sraw a b la lb = unsigned_below _ (shr_below (signed32 a) (b % 32) (let k = (short_range a).1 in omega (arith, ints)))
alu_below Mulw a b la lb = extended_below (low32 a * low32 b % 2 ^ 32)
alu_below Divw a b la lb = go (low32 b == 0)
  where
    go : (c : Bool) → (if c then 2 ^ 64 - 1 else extended32 (cast_unsigned w32 (int_div (cast_signed w32 (low32 a)) (cast_signed w32 (low32 b))))) < 2 ^ 64
    go true = omega arith
    go false = extended_below (cast_unsigned w32 (int_div (cast_signed w32 (low32 a)) (cast_signed w32 (low32 b))))
alu_below Divuw a b la lb = go (low32 b == 0)
  where
    go : (c : Bool) → (if c then 2 ^ 64 - 1 else extended32 (low32 a / low32 b)) < 2 ^ 64
    go true = omega arith
    go false = extended_below (low32 a / low32 b)
alu_below Remw a b la lb = go (low32 b == 0) refl
  where
    go : (c : Bool) → (low32 b == 0) ≡ c → (if c then extended32 (low32 a) else cast_unsigned w64 (int_rem (cast_signed w32 (low32 a)) (cast_signed w32 (low32 b)))) < 2 ^ 64
    go true e = extended_below (low32 a)
    go false e =
        let ne : b % 2 ^ 32 ≢ 0 = grind (arith, nat_tests) in
        let r = rem_below (cast_signed w32 (low32 a)) (cast_signed w32 (low32 b)) (nonzero32 b ne) in
        let m = short_range b in
        unsigned_below (int_rem (cast_signed w32 (low32 a)) (cast_signed w32 (low32 b))) (from_abs (int_rem (cast_signed w32 (low32 a)) (cast_signed w32 (low32 b))) (small (cast_signed w32 (low32 b)) m r))
      where
        small : (y : ℤ) → (negsuc (2 ^ 31 - 1) ≤ℤ y) × (y <ℤ pos (2 ^ 31)) → unsigned_abs (int_rem (cast_signed w32 (low32 a)) (cast_signed w32 (low32 b))) < unsigned_abs y → unsigned_abs (int_rem (cast_signed w32 (low32 a)) (cast_signed w32 (low32 b))) < 2 ^ 64
        small (pos n) p l = let q = p.1 in omega (arith, ints)
        small (negsuc n) p l = let q = p.0 in omega (arith, ints)
alu_below Remuw a b la lb = go (low32 b == 0)
  where
    go : (c : Bool) → (if c then extended32 (low32 a) else extended32 (low32 a % low32 b)) < 2 ^ 64
    go true = extended_below (low32 a)
    go false = extended_below (low32 a % low32 b)

byte_below : (m : List Area) (x : ℕ) → AreBytes m → byte_at m x < 256
byte_below [] x k = omega arith
byte_below (a ∷ rest) x k = go (holds a x) (byte_below rest x k.1)
  where
    go : (c : Bool) → byte_at rest x < 256 → (if c then get_or a.bytes (x - a.low) 0 else byte_at rest x) < 256
    go true l = k.0 (x - a.low)
    go false l = l

-- a list with one number set
pub set_below : (xs : List ℕ) (t v r bound : ℕ) → ((q : ℕ) → get_or xs q 0 < bound) → v < bound → get_or (set xs t v) r 0 < bound
set_below xs t v r bound all lt = go (r == t) refl (dec_le (length xs) t)
  where
    go : (b : Bool) → (r == t) ≡ b → Dec (length xs ≤ t) → get_or (set xs t v) r 0 < bound
    go true e (no l) =
        let q : r ≡ t = grind (arith, nat_tests) in
        let lt' : t < length xs = omega arith in
        let x : get_or (set xs t v) r 0 ≡ v = ap (λ i. get_or (set xs t v) i 0) q ∙ get_or-set_same xs t v 0 lt' in omega arith
    go true e (yes l) = let x : set xs t v ≡ xs = set_out xs t v l in let a = all r in let y : get_or (set xs t v) r 0 ≡ get_or xs r 0 = ap (λ (l : List ℕ). get_or l r 0) x in omega arith
    go false e d = let ne : r ≢ t = grind (arith, nat_tests) in let x = get_or-set_other xs t r v 0 ne in let a = all r in omega arith

pub with_byte_are : (m : List Area) (x b : ℕ) → b < 256 → AreBytes m → AreBytes (with_byte m x b)
with_byte_are [] x b l k = tt
with_byte_are (a ∷ rest) x b l k = go (holds a x) (with_byte_are rest x b l k.1)
  where
    go : (c : Bool) → AreBytes (with_byte rest x b) → AreBytes (if c then record a { bytes = set a.bytes (x - a.low) b } ∷ rest else a ∷ with_byte rest x b)
    go true later = (λ i. set_below a.bytes (x - a.low) b i 256 k.0 l, k.1)
    go false later = (k.0, later)

with_number_are : (n : ℕ) (m : List Area) (x v : ℕ) → AreBytes m → AreBytes (with_number n m x v)
with_number_are zero m x v k = k
with_number_are (suc n) m x v k = with_number_are n (with_byte m x (v % 256)) (suc x) (v / 256) (with_byte_are m x (v % 256) (omega arith) k)

pub after_are : (m : List Area) (ask : Ask) → AreBytes m → AreBytes (after m ask)
after_are m Nothing k = k
after_are m (Loads x w) k = k
after_are m (Stores x w v) k = go (why writable_of m x w)
  where
    go : (o : Option MemFault) → AreBytes (unless_refused o m (with_number (bytes_of w) m x v))
    go None = with_number_are (bytes_of w) m x v k
    go (Some f) = k

abbrev IsBelow : ℕ → Result ℕ MemFault → Type 0
IsBelow n (Ok v) = v < n
IsBelow n (Err f) = Unit {0}

number_1 : (m : List Area) (x : ℕ) → AreBytes m → number_at 1 m x < 2 ^ 8
number_1 m x k = let a = byte_below m x k in omega arith

number_2 : (m : List Area) (x : ℕ) → AreBytes m → number_at 2 m x < 2 ^ 16
number_2 m x k = let a = byte_below m x k in let b = byte_below m (suc x) k in omega arith

pub number_4 : (m : List Area) (x : ℕ) → AreBytes m → number_at 4 m x < 2 ^ 32
number_4 m x k = let a = number_2 m x k in let b = number_2 m (suc (suc x)) k in omega arith

number_8 : (m : List Area) (x : ℕ) → AreBytes m → number_at 8 m x < 2 ^ 64
number_8 m x k = let a = number_4 m x k in let b = number_4 m (suc (suc (suc (suc x)))) k in omega arith

loaded_below : (op : LoadOp) (m : List Area) (x : ℕ) → AreBytes m → extended op (number_at (bytes_of (load_width op)) m x) < 2 ^ 64
loaded_below Lb m x k = let a = number_1 m x k in unsigned_below (cast_signed w8 (number_at 1 m x)) (omega (arith, ints))
loaded_below Lh m x k = let a = number_2 m x k in unsigned_below (cast_signed w16 (number_at 2 m x)) (omega (arith, ints))
loaded_below Lw m x k = let a = number_4 m x k in unsigned_below (cast_signed w32 (number_at 4 m x)) (omega (arith, ints))
loaded_below Lbu m x k = let a = number_1 m x k in omega arith
loaded_below Lhu m x k = let a = number_2 m x k in omega arith
loaded_below Lwu m x k = let a = number_4 m x k in omega arith
loaded_below Ld m x k = number_8 m x k

-- what a register reads is a word
pub register_below : (regs : List ℕ) (r : ℕ) → AreWords regs → register regs r < 2 ^ 64
register_below regs r ok = go (r == 0)
  where
    go : (b : Bool) → (if b then 0 else get_or regs r 0) < 2 ^ 64
    go true = omega arith
    go false = ok.below r

pub written : (regs : List ℕ) (t v : ℕ) → v < 2 ^ 64 → AreWords regs → AreWords (with_register regs t v)
written regs t v lt ok = go (t == 0) refl
  where
    go : (b : Bool) → (t == 0) ≡ b → AreWords (if b then regs else set regs t v)
    go true e = ok
    go false e = record {
      count = length-set regs t v ∙ ok.count;
      zero = let ne : 0 ≢ t = grind (arith, nat_tests) in get_or-set_other regs t 0 v 0 ne ∙ ok.zero;
      below = λ r. set_below regs t v r (2 ^ 64) ok.below lt;
    }

imm_below : (z : ℤ) → IsSigned 32 z → cast_unsigned w64 z < 2 ^ 64
imm_below (pos n) h = let a = h.1 in omega (arith, ints)
imm_below (negsuc n) h = unsigned_below (negsuc n) (omega (arith, ints))

jumped : (to : ℕ) (old new : List ℕ) → AreWords old → AreWords new → AreWords (jump to old new).regs
jumped to old new a b = go (to % 4 == 0)
  where
    go : (c : Bool) → AreWords (if c then record { next = At to; regs = new } else stopped Target to old).regs
    go true = b
    go false = a

branched : (b : Bool) (pc to : ℕ) (regs : List ℕ) → AreWords regs → AreWords (if b then jump to regs regs else onward pc regs).regs
branched true pc to regs ok = jumped to regs regs ok ok
branched false pc to regs ok = ok

load_sound : (op : LoadOp) (rd addr pc : ℕ) (regs : List ℕ) (m : List Area) → AreBytes m → AreWords regs → AreWords (loaded op rd addr pc regs (load_of m addr (load_width op))).regs
load_sound op rd addr pc regs m k ok = go (why readable_of m addr (load_width op))
  where
    go : (o : Option MemFault) → AreWords (loaded op rd addr pc regs (or_refusal o (number_at (bytes_of (load_width op)) m addr))).regs
    go None = written regs rd (extended op (number_at (bytes_of (load_width op)) m addr)) (loaded_below op m addr k) ok
    go (Some f) = ok

store_sound : (addr pc : ℕ) (regs : List ℕ) (told : Result ℕ MemFault) → AreWords regs → AreWords (stored addr pc regs told).regs
store_sound addr pc regs (Ok n) ok = ok
store_sound addr pc regs (Err why) ok = ok

upper_below : (op : UpperOp) (pc : ℕ) (z : ℤ) → IsSigned 32 z → upper op pc z < 2 ^ 64
upper_below Lui pc z h = imm_below z h
upper_below Auipc pc z h = omega arith

pub row-words : (i : Instr) (pc : ℕ) (regs : List ℕ) (m : List Area) → IsInRange i → AreBytes m → AreWords regs → AreWords (row i pc regs (answer m (asks i regs))).regs
row-words (Alu op rd rs1 rs2) pc regs m h k ok =
    written regs rd _ (alu_below op _ _ (register_below regs rs1 ok) (register_below regs rs2 ok)) ok
row-words (AluImm op rd rs1 imm) pc regs m h k ok =
    written regs rd _ (alu_below (register_op op) _ _ (register_below regs rs1 ok) (imm_below imm h.number)) ok
row-words (Upper op rd imm) pc regs m h k ok = written regs rd _ (upper_below op pc imm h.number) ok
row-words (Load op rd rs1 imm) pc regs m h k ok = load_sound op rd _ pc regs m k ok
row-words (Store op rs1 rs2 imm) pc regs m h k ok = store_sound _ pc regs _ ok
row-words (Branch op rs1 rs2 imm) pc regs m h k ok = branched (taken op (register regs rs1) (register regs rs2)) pc (plus_offset pc imm) regs ok
row-words (Jal rd imm) pc regs m h k ok = jumped _ regs _ ok (written regs rd (next_pc pc) (omega arith) ok)
row-words (Jalr rd rs1 imm) pc regs m h k ok = jumped _ regs _ ok (written regs rd (next_pc pc) (omega arith) ok)
row-words (Fence rd rs1 imm) pc regs m h k ok = ok
row-words Ecall pc regs m h k ok = ok
row-words Ebreak pc regs m h k ok = ok
