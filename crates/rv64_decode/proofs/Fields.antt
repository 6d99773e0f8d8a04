-- The fields of a decoded instruction are in their ranges.
use Rattle.std.proofs.Common.{◌≡◌, ℕ, suc, ◌+◌, ◌-◌, ◌*◌, ◌/◌, ◌%◌, ◌^◌, ◌<◌, ◌≤◌, Bool, true, false, ◌&&◌, Option, Some, None, refl, subst, arith, if◌then◌else◌, ◌==◌, nat_lt, pos, negsuc, ℤ}
use Rattle.std.proofs.lemmas.Int.{ints}
use Rattle.std.proofs.lemmas.Bool.Decides.{nat_tests}
use Rattle.std.specs.Int.{w32, cast_unsigned}
use Rattle.rv64_decode.specs.declared.instr.ImmOp.{ImmOp}
use Rattle.rv64_decode.specs.declared.instr.ImmOp.TheVariants.{Addi, Slti, Sltiu, Xori, Ori, Andi, Slli, Srli, Srai, Addiw, Slliw, Srliw, Sraiw}
use Rattle.rv64_decode.specs.declared.instr.UpperOp.TheVariants.{Lui, Auipc}
use Rattle.rv64_decode.specs.declared.instr.Instr.{Instr}
use Rattle.rv64_decode.specs.declared.instr.Instr.TheVariants.{Alu, AluImm, Upper, Load, Store, Branch, Jal, Jalr, Fence, Ecall, Ebreak}
use Rattle.rv64_decode.specs.Fields.{opcode, rd_of, funct3, rs1_of, rs2_of, signed_by, imm_i, imm_s, imm_b, imm_u, imm_j}
use Rattle.rv64_decode.specs.Form.{IsSigned, IsAmount, IsMultiple, ImmForm}
use Rattle.rv64_decode.specs.Range.{IsInRange}
use Rattle.rv64_decode.specs.Table.{with_op, imm_for, decoded}

signed_fits : (k n : ℕ) (half : ℕ) → half ≡ 2 ^ (k - 1) → 0 < half → n < 2 * half → IsSigned k (signed_by half n)
signed_fits k n half e p l = go (nat_lt n half) refl
  where
    go : (b : Bool) → nat_lt n half ≡ b → IsSigned k (if b then pos n else negsuc (2 * half - suc n))
    go true f = let m : n < half = grind (arith, nat_tests) in let e' = e in (omega (arith, ints), omega (arith, ints))
    go false f = let m : half ≤ n = grind (arith, nat_tests) in let e' = e in (omega (arith, ints), omega (arith, ints))

multiple_b : (n : ℕ) → n < 2 * 2 ^ 12 → n % 2 ^ 1 ≡ 0 → cast_unsigned w32 (signed_by (2 ^ 12) n) % 2 ^ 1 ≡ 0
multiple_b n l m = go (nat_lt n (2 ^ 12)) refl
  where
    go : (b : Bool) → nat_lt n (2 ^ 12) ≡ b → cast_unsigned w32 (if b then pos n else negsuc (2 * 2 ^ 12 - suc n)) % 2 ^ 1 ≡ 0
    go true e = omega (arith, ints)
    go false e = let f : 2 ^ 12 ≤ n = grind (arith, nat_tests) in omega (arith, ints)

multiple_j : (n : ℕ) → n < 2 * 2 ^ 20 → n % 2 ^ 1 ≡ 0 → cast_unsigned w32 (signed_by (2 ^ 20) n) % 2 ^ 1 ≡ 0
multiple_j n l m = go (nat_lt n (2 ^ 20)) refl
  where
    go : (b : Bool) → nat_lt n (2 ^ 20) ≡ b → cast_unsigned w32 (if b then pos n else negsuc (2 * 2 ^ 20 - suc n)) % 2 ^ 1 ≡ 0
    go true e = omega (arith, ints)
    go false e = let f : 2 ^ 20 ≤ n = grind (arith, nat_tests) in omega (arith, ints)

multiple_u : (n : ℕ) → n < 2 * 2 ^ 31 → n % 2 ^ 12 ≡ 0 → cast_unsigned w32 (signed_by (2 ^ 31) n) % 2 ^ 12 ≡ 0
multiple_u n l m = go (nat_lt n (2 ^ 31)) refl
  where
    go : (b : Bool) → nat_lt n (2 ^ 31) ≡ b → cast_unsigned w32 (if b then pos n else negsuc (2 * 2 ^ 31 - suc n)) % 2 ^ 12 ≡ 0
    go true e = omega (arith, ints)
    go false e = let f : 2 ^ 31 ≤ n = grind (arith, nat_tests) in omega (arith, ints)

-- few bits are some of 32
wider_12 : (z : ℤ) → IsSigned 12 z → IsSigned 32 z
wider_12 (pos n) h = let a = h.1 in (omega (arith, ints), omega (arith, ints))
wider_12 (negsuc n) h = let a = h.0 in (omega (arith, ints), omega (arith, ints))

wider_13 : (z : ℤ) → IsSigned 13 z → IsSigned 32 z
wider_13 (pos n) h = let a = h.1 in (omega (arith, ints), omega (arith, ints))
wider_13 (negsuc n) h = let a = h.0 in (omega (arith, ints), omega (arith, ints))

wider_21 : (z : ℤ) → IsSigned 21 z → IsSigned 32 z
wider_21 (pos n) h = let a = h.1 in (omega (arith, ints), omega (arith, ints))
wider_21 (negsuc n) h = let a = h.0 in (omega (arith, ints), omega (arith, ints))

wider_amount : (n : ℕ) (z : ℤ) → n < 2 ^ 31 → IsAmount n z → IsSigned 32 z
wider_amount n (pos m) l h = let a = h.1 in (omega (arith, ints), omega (arith, ints))
wider_amount n (negsuc m) l h = let a = h.0 in (omega (arith, ints), omega (arith, ints))

wider_form : (op : ImmOp) (z : ℤ) → ImmForm op z → IsSigned 32 z
wider_form Addi z h = wider_12 z h
wider_form Slti z h = wider_12 z h
wider_form Sltiu z h = wider_12 z h
wider_form Xori z h = wider_12 z h
wider_form Ori z h = wider_12 z h
wider_form Andi z h = wider_12 z h
wider_form Addiw z h = wider_12 z h
wider_form Slli z h = wider_amount 63 z (omega arith) h
wider_form Srli z h = wider_amount 63 z (omega arith) h
wider_form Srai z h = wider_amount 63 z (omega arith) h
wider_form Slliw z h = wider_amount 31 z (omega arith) h
wider_form Srliw z h = wider_amount 31 z (omega arith) h
wider_form Sraiw z h = wider_amount 31 z (omega arith) h

module _ (w : ℕ) (lt : w < 2 ^ 32) where
  fits_i : IsSigned 12 (imm_i w)
  fits_i = signed_fits 12 (w / 2 ^ 20) (2 ^ 11) refl (omega arith) (omega arith)

  fits_s : IsSigned 12 (imm_s w)
  fits_s = signed_fits 12 (w / 2 ^ 25 * 2 ^ 5 + w / 2 ^ 7 % 2 ^ 5) (2 ^ 11) refl (omega arith) (omega arith)

  fits_b : IsSigned 13 (imm_b w)
  fits_b = signed_fits 13 (w / 2 ^ 31 * 2 ^ 12 + w / 2 ^ 7 % 2 * 2 ^ 11 + w / 2 ^ 25 % 2 ^ 6 * 2 ^ 5 + w / 2 ^ 8 % 2 ^ 4 * 2) (2 ^ 12) refl (omega arith) (omega arith)

  even_b : IsMultiple 1 (imm_b w)
  even_b = multiple_b (w / 2 ^ 31 * 2 ^ 12 + w / 2 ^ 7 % 2 * 2 ^ 11 + w / 2 ^ 25 % 2 ^ 6 * 2 ^ 5 + w / 2 ^ 8 % 2 ^ 4 * 2) (omega arith) (omega arith)

  fits_j : IsSigned 21 (imm_j w)
  fits_j = signed_fits 21 (w / 2 ^ 31 * 2 ^ 20 + w / 2 ^ 12 % 2 ^ 8 * 2 ^ 12 + w / 2 ^ 20 % 2 * 2 ^ 11 + w / 2 ^ 21 % 2 ^ 10 * 2) (2 ^ 20) refl (omega arith) (omega arith)

  even_j : IsMultiple 1 (imm_j w)
  even_j = multiple_j (w / 2 ^ 31 * 2 ^ 20 + w / 2 ^ 12 % 2 ^ 8 * 2 ^ 12 + w / 2 ^ 20 % 2 * 2 ^ 11 + w / 2 ^ 21 % 2 ^ 10 * 2) (omega arith) (omega arith)

  fits_u : IsSigned 32 (imm_u w)
  fits_u = signed_fits 32 (w / 2 ^ 12 * 2 ^ 12) (2 ^ 31) refl (omega arith) (omega arith)

  whole_u : IsMultiple 12 (imm_u w)
  whole_u = multiple_u (w / 2 ^ 12 * 2 ^ 12) (omega arith) (omega arith)

  rd_below : rd_of w < 32
  rd_below = omega arith

  rs1_below : rs1_of w < 32
  rs1_below = omega arith

  rs2_below : rs2_of w < 32
  rs2_below = omega arith

  amount6 : IsAmount 63 (pos (w / 2 ^ 20 % 2 ^ 6))
  amount6 = (omega (arith, ints), omega (arith, ints))

  amount5 : IsAmount 31 (pos (w / 2 ^ 20 % 2 ^ 5))
  amount5 = (omega (arith, ints), omega (arith, ints))

  form_for : (op : ImmOp) → ImmForm op (imm_for op w)
  form_for Addi = fits_i
  form_for Slti = fits_i
  form_for Sltiu = fits_i
  form_for Xori = fits_i
  form_for Ori = fits_i
  form_for Andi = fits_i
  form_for Addiw = fits_i
  form_for Slli = amount6
  form_for Srli = amount6
  form_for Srai = amount6
  form_for Slliw = amount5
  form_for Srliw = amount5
  form_for Sraiw = amount5

-- each instruction that is given is in range
abbrev pub AreInRange : Option Instr → Type 0
AreInRange (Some i) = IsInRange i
AreInRange None = Unit {0}

by_op : {A : Type 0} (make : A → Instr) (o : Option A) → ((op : A) → IsInRange (make op)) → AreInRange (with_op make o)
by_op make (Some op) f = f op
by_op make None f = tt

choose : (b : Bool) (x y : Option Instr) → AreInRange x → AreInRange y → AreInRange (if b then x else y)
choose true x y p q = p
choose false x y p q = q

decoded_fields : (w : ℕ) → w < 2 ^ 32 → AreInRange (decoded w)
decoded_fields w lt =
    let d = rd_below w lt in
    let a = rs1_below w lt in
    let b = rs2_below w lt in
    let i = fits_i w lt in
    choose (opcode w == 0x33) _ _ (by_op (λ op. Alu op (rd_of w) (rs1_of w) (rs2_of w)) _ (λ op. record { registers = (d, a, b); number = tt; form = tt }))
    (choose (opcode w == 0x3B) _ _ (by_op (λ op. Alu op (rd_of w) (rs1_of w) (rs2_of w)) _ (λ op. record { registers = (d, a, b); number = tt; form = tt }))
    (choose (opcode w == 0x13) _ _ (by_op (λ op. AluImm op (rd_of w) (rs1_of w) (imm_for op w)) _ (λ op. record { registers = (d, a); number = wider_form op _ (form_for w lt op); form = form_for w lt op }))
    (choose (opcode w == 0x1B) _ _ (by_op (λ op. AluImm op (rd_of w) (rs1_of w) (imm_for op w)) _ (λ op. record { registers = (d, a); number = wider_form op _ (form_for w lt op); form = form_for w lt op }))
    (choose (opcode w == 0x37) (Some (Upper Lui (rd_of w) (imm_u w))) _ (record { registers = d; number = fits_u w lt; form = whole_u w lt })
    (choose (opcode w == 0x17) (Some (Upper Auipc (rd_of w) (imm_u w))) _ (record { registers = d; number = fits_u w lt; form = whole_u w lt })
    (choose (opcode w == 0x03) _ _ (by_op (λ op. Load op (rd_of w) (rs1_of w) (imm_i w)) _ (λ op. record { registers = (d, a); number = wider_12 _ i; form = i }))
    (choose (opcode w == 0x23) _ _ (by_op (λ op. Store op (rs1_of w) (rs2_of w) (imm_s w)) _ (λ op. record { registers = (a, b); number = wider_12 _ (fits_s w lt); form = fits_s w lt }))
    (choose (opcode w == 0x63) _ _ (by_op (λ op. Branch op (rs1_of w) (rs2_of w) (imm_b w)) _ (λ op. record { registers = (a, b); number = wider_13 _ (fits_b w lt); form = (fits_b w lt, even_b w lt) }))
    (choose (opcode w == 0x6F) (Some (Jal (rd_of w) (imm_j w))) _ (record { registers = d; number = wider_21 _ (fits_j w lt); form = (fits_j w lt, even_j w lt) })
    (choose (opcode w == 0x67 && funct3 w == 0) (Some (Jalr (rd_of w) (rs1_of w) (imm_i w))) _ (record { registers = (d, a); number = wider_12 _ i; form = i })
    (choose (opcode w == 0x0F && funct3 w == 0) (Some (Fence (rd_of w) (rs1_of w) (imm_i w))) _ (record { registers = (d, a); number = wider_12 _ i; form = i })
    (choose (w == 0x0000_0073) (Some Ecall) _ (record { registers = tt; number = tt; form = tt })
    (choose (w == 0x0010_0073) (Some Ebreak) None (record { registers = tt; number = tt; form = tt }) tt)))))))))))))

pub decoded-in_range : (w : ℕ) (i : Instr) → w < 2 ^ 32 → decoded w ≡ Some i → IsInRange i
decoded-in_range w i lt e = subst AreInRange e (decoded_fields w lt)
