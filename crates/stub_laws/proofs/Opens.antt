-- The only word of an open jump.
use Rattle.std.proofs.Common.{◌≡◌, ℕ, ◌+◌, ◌*◌, ◌/◌, ◌%◌, ◌^◌, ◌<◌, refl, arith, pos, Option, Some, None, Bool, true, false, cond}
use Rattle.std.specs.Prelude.{◌==◌, ◌&&◌}
use Rattle.std.proofs.lemmas.Bool.{eqb-true}
use Rattle.std.proofs.lemmas.Bool.Decides.{nat_tests}
use Rattle.rv64_decode.specs.Fields.{opcode, funct3, funct6, funct7, rd_of, rs1_of, rs2_of, imm_i, imm_s, imm_b, imm_u, imm_j, signed_by}
use Rattle.rv64_decode.specs.Operations.{alu_by, alu_w_by, imm_by, imm_w_by, load_by, store_by, branch_by}
use Rattle.rv64_decode.specs.Table.{decoded, with_op, imm_for}
use Rattle.rv64_decode.specs.declared.instr.UpperOp.TheVariants.{Lui, Auipc}
use Rattle.rv64_decode.specs.declared.instr.Instr.{Instr}
use Rattle.rv64_decode.specs.declared.instr.Instr.TheVariants.{Alu, AluImm, Upper, Load, Store, Branch, Jal, Jalr, Fence, Ecall, Ebreak}
use Rattle.rv64_decode.specs.declared.xinstr.XInstr.TheVariants.{Base}
use Rattle.rv64_decode.specs.XTable.{decoded_x, added_row, with_base}

record IsOpen (w : ℕ) (o : Option Instr) : Type 0 where
  back : o ≡ Some (Jal 0 (pos 0)) → (opcode w ≡ 0x6F) × (rd_of w ≡ 0) × (imm_j w ≡ pos 0)

either : {A : Type 0} (G : A → Type 0) (b : Bool) (x y : A) → (b ≡ true → G x) → G y → G (cond b x y)
either G true x y p q = p refl
either G false x y p q = q

with_open : {A : Type 0} {w : ℕ} (make : A → Instr) (o : Option A) → ((op : A) → make op ≡ Jal 0 (pos 0) → ⊥) → IsOpen w (with_op make o)
with_open make None h = record { back = λ e. cc }
with_open make (Some op) h = record { back = λ e. let f : make op ≡ Jal 0 (pos 0) = cc in absurd (h op f) }

no_open : (w : ℕ) (i : Instr) → (i ≡ Jal 0 (pos 0) → ⊥) → IsOpen w (Some i)
no_open w i h = record { back = λ e. let f : i ≡ Jal 0 (pos 0) = cc in absurd (h f) }

jal_open : (w : ℕ) → opcode w ≡ 0x6F → IsOpen w (Some (Jal (rd_of w) (imm_j w)))
jal_open w h = record { back = λ e. let a : rd_of w ≡ 0 = cc in let b : imm_j w ≡ pos 0 = cc in (h, a, b) }

decoded_open : (w : ℕ) → IsOpen w (decoded w)
decoded_open w =
    (either (IsOpen w) (opcode w == 0x33) _ _ (λ t. with_open (λ op. Alu op (rd_of w) (rs1_of w) (rs2_of w)) (alu_by (funct3 w) (funct7 w)) (λ op e. cc))
    (either (IsOpen w) (opcode w == 0x3B) _ _ (λ t. with_open (λ op. Alu op (rd_of w) (rs1_of w) (rs2_of w)) (alu_w_by (funct3 w) (funct7 w)) (λ op e. cc))
    (either (IsOpen w) (opcode w == 0x13) _ _ (λ t. with_open (λ op. AluImm op (rd_of w) (rs1_of w) (imm_for op w)) (imm_by (funct3 w) (funct6 w)) (λ op e. cc))
    (either (IsOpen w) (opcode w == 0x1B) _ _ (λ t. with_open (λ op. AluImm op (rd_of w) (rs1_of w) (imm_for op w)) (imm_w_by (funct3 w) (funct7 w)) (λ op e. cc))
    (either (IsOpen w) (opcode w == 0x37) _ _ (λ t. no_open w (Upper Lui (rd_of w) (imm_u w)) (λ e. cc))
    (either (IsOpen w) (opcode w == 0x17) _ _ (λ t. no_open w (Upper Auipc (rd_of w) (imm_u w)) (λ e. cc))
    (either (IsOpen w) (opcode w == 0x03) _ _ (λ t. with_open (λ op. Load op (rd_of w) (rs1_of w) (imm_i w)) (load_by (funct3 w)) (λ op e. cc))
    (either (IsOpen w) (opcode w == 0x23) _ _ (λ t. with_open (λ op. Store op (rs1_of w) (rs2_of w) (imm_s w)) (store_by (funct3 w)) (λ op e. cc))
    (either (IsOpen w) (opcode w == 0x63) _ _ (λ t. with_open (λ op. Branch op (rs1_of w) (rs2_of w) (imm_b w)) (branch_by (funct3 w)) (λ op e. cc))
    (either (IsOpen w) (opcode w == 0x6F) _ _ (λ t. jal_open w (eqb-true (opcode w) 0x6F t))
    (either (IsOpen w) (opcode w == 0x67 && funct3 w == 0) _ _ (λ t. no_open w (Jalr (rd_of w) (rs1_of w) (imm_i w)) (λ e. cc))
    (either (IsOpen w) (opcode w == 0x0F && funct3 w == 0) _ _ (λ t. no_open w (Fence (rd_of w) (rs1_of w) (imm_i w)) (λ e. cc))
    (either (IsOpen w) (w == 0x73) _ _ (λ t. no_open w Ecall (λ e. cc))
    (either (IsOpen w) (w == 0x10_0073) _ _ (λ t. no_open w Ebreak (λ e. cc))
    (record { back = λ e. cc })))))))))))))))

signed_zero : (half n : ℕ) → signed_by half n ≡ pos 0 → n ≡ 0
signed_zero half n h = grind (arith, nat_tests)

open_word : (w : ℕ) → w < 2 ^ 32 → opcode w ≡ 0x6F → rd_of w ≡ 0 → imm_j w ≡ pos 0 → w ≡ 0x6F
open_word w b h r i = let z = signed_zero (2 ^ 20) (w / 2 ^ 31 * 2 ^ 20 + w / 2 ^ 12 % 2 ^ 8 * 2 ^ 12 + w / 2 ^ 20 % 2 * 2 ^ 11 + w / 2 ^ 21 % 2 ^ 10 * 2) i in omega (arith, z)

pub based : (o : Option Instr) (i : Instr) → with_base o ≡ Some (Base i) → o ≡ Some i
based None i e = cc
based (Some j) i e = cc

pub x_not : (w : ℕ) (i : Instr) → added_row w ≡ Some (Base i) → ⊥
x_not w i e = grind (arith, nat_tests)

pub only_open : (w : ℕ) → w < 2 ^ 32 → decoded_x w ≡ Some (Base (Jal 0 (pos 0))) → w ≡ 0x6F
unfolding decoded_x
only_open w b e = by_test (opcode w == 0x0B && funct7 w == 0) e
  where
    by_test : (t : Bool) → cond t (added_row w) (with_base (decoded w)) ≡ Some (Base (Jal 0 (pos 0))) → w ≡ 0x6F
    by_test true e = absurd (x_not w (Jal 0 (pos 0)) e)
    by_test false e = let h = (decoded_open w).back (based (decoded w) (Jal 0 (pos 0)) e) in open_word w b h.0 h.1 h.2
