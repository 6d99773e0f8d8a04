-- The fields of a decoded word are small.
use Rattle.std.proofs.Common.{◌≡◌, ℕ, ◌+◌, ◌-◌, ◌*◌, ◌/◌, ◌%◌, ◌^◌, ◌<◌, refl, subst, arith, Option, Some, None, Bool, true, false, cond, List, length}
use Rattle.std.specs.Prelude.{slice_get, nat_le, ◌==◌, ◌&&◌}
use Rattle.std.proofs.lemmas.Option.{slice_get_within}
use Rattle.rv64_decode.specs.Fields.{opcode, funct3, funct6, funct7, rd_of, rs1_of, rs2_of, imm_i, imm_s, imm_b, imm_u, imm_j}
use Rattle.rv64_decode.specs.Operations.{alu_by, alu_w_by, imm_by, imm_w_by, load_by, store_by, branch_by}
use Rattle.rv64_decode.specs.Table.{decoded, with_op, imm_for}
use Rattle.rv64_decode.specs.declared.instr.UpperOp.TheVariants.{Lui, Auipc}
use Rattle.rv64_decode.specs.declared.instr.Instr.{Instr}
use Rattle.rv64_decode.specs.declared.instr.Instr.TheVariants.{Alu, AluImm, Upper, Load, Store, Branch, Jal, Jalr, Fence, Ecall, Ebreak}
use Rattle.rv64_decode.specs.declared.xinstr.XInstr.{XInstr}
use Rattle.rv64_decode.specs.declared.xinstr.XInstr.TheVariants.{Base, Put, Get, Par, Join, Back, Id, Harts}
use Rattle.rv64_decode.specs.XTable.{decoded_x, added_row, with_base}
use Rattle.rv64_decode.specs.Hart.{fetched, read_by, address}

-- the registers are below 32
abbrev pub Small : Option Instr → Type 0
Small None = Unit {0}
Small (Some (Alu op rd rs1 rs2)) = (rd < 32) × (rs1 < 32) × (rs2 < 32)
Small (Some (AluImm op rd rs1 imm)) = (rd < 32) × (rs1 < 32)
Small (Some (Upper op rd imm)) = rd < 32
Small (Some (Load op rd rs1 imm)) = (rd < 32) × (rs1 < 32)
Small (Some (Store op rs1 rs2 imm)) = (rs1 < 32) × (rs2 < 32)
Small (Some (Branch op rs1 rs2 imm)) = (rs1 < 32) × (rs2 < 32)
Small (Some (Jal rd imm)) = rd < 32
Small (Some (Jalr rd rs1 imm)) = (rd < 32) × (rs1 < 32)
Small (Some (Fence rd rs1 imm)) = (rd < 32) × (rs1 < 32)
Small (Some Ecall) = Unit {0}
Small (Some Ebreak) = Unit {0}

either : {A : Type 0} (G : A → Type 0) (b : Bool) (x y : A) → G x → G y → G (cond b x y)
either G true x y p q = p
either G false x y p q = q

record IsSmall (o : Option Instr) : Type 0 where
  of : Small o

with_small : {A : Type 0} (make : A → Instr) (o : Option A) → ((op : A) → Small (Some (make op))) → IsSmall (with_op make o)
with_small make None h = record { of = tt }
with_small make (Some op) h = record { of = h op }

small_of : (i : Instr) → Small (Some i) → IsSmall (Some i)
small_of i h = record { of = h }

five : (n : ℕ) → n % 2 ^ 5 < 32
five n = omega arith

decoded_small : (w : ℕ) → IsSmall (decoded w)
decoded_small w =
    (either IsSmall (opcode w == 0x33) _ _ (with_small (λ op. Alu op (rd_of w) (rs1_of w) (rs2_of w)) (alu_by (funct3 w) (funct7 w)) (λ op. (five _, five _, five _)))
    (either IsSmall (opcode w == 0x3B) _ _ (with_small (λ op. Alu op (rd_of w) (rs1_of w) (rs2_of w)) (alu_w_by (funct3 w) (funct7 w)) (λ op. (five _, five _, five _)))
    (either IsSmall (opcode w == 0x13) _ _ (with_small (λ op. AluImm op (rd_of w) (rs1_of w) (imm_for op w)) (imm_by (funct3 w) (funct6 w)) (λ op. (five _, five _)))
    (either IsSmall (opcode w == 0x1B) _ _ (with_small (λ op. AluImm op (rd_of w) (rs1_of w) (imm_for op w)) (imm_w_by (funct3 w) (funct7 w)) (λ op. (five _, five _)))
    (either IsSmall (opcode w == 0x37) _ _ (small_of (Upper Lui (rd_of w) (imm_u w)) (five _))
    (either IsSmall (opcode w == 0x17) _ _ (small_of (Upper Auipc (rd_of w) (imm_u w)) (five _))
    (either IsSmall (opcode w == 0x03) _ _ (with_small (λ op. Load op (rd_of w) (rs1_of w) (imm_i w)) (load_by (funct3 w)) (λ op. (five _, five _)))
    (either IsSmall (opcode w == 0x23) _ _ (with_small (λ op. Store op (rs1_of w) (rs2_of w) (imm_s w)) (store_by (funct3 w)) (λ op. (five _, five _)))
    (either IsSmall (opcode w == 0x63) _ _ (with_small (λ op. Branch op (rs1_of w) (rs2_of w) (imm_b w)) (branch_by (funct3 w)) (λ op. (five _, five _)))
    (either IsSmall (opcode w == 0x6F) _ _ (small_of (Jal (rd_of w) (imm_j w)) (five _))
    (either IsSmall (opcode w == 0x67 && funct3 w == 0) _ _ (small_of (Jalr (rd_of w) (rs1_of w) (imm_i w)) (five _, five _))
    (either IsSmall (opcode w == 0x0F && funct3 w == 0) _ _ (small_of (Fence (rd_of w) (rs1_of w) (imm_i w)) (five _, five _))
    (either IsSmall (w == 0x73) _ _ (small_of Ecall tt)
    (either IsSmall (w == 0x10_0073) _ _ (small_of Ebreak tt)
    (record { of = tt })))))))))))))))

abbrev pub SmallX : Option XInstr → Type 0
SmallX None = Unit {0}
SmallX (Some (Base i)) = Small (Some i)
SmallX (Some (Put slot rs1)) = (slot < 32) × (rs1 < 32)
SmallX (Some (Get rd slot)) = (rd < 32) × (slot < 32)
SmallX (Some Par) = Unit {0}
SmallX (Some Join) = Unit {0}
SmallX (Some Back) = Unit {0}
SmallX (Some (Id rd)) = rd < 32
SmallX (Some (Harts rd)) = rd < 32

record IsSmallX (o : Option XInstr) : Type 0 where
  of : SmallX o

small_x : (i : XInstr) → SmallX (Some i) → IsSmallX (Some i)
small_x i h = record { of = h }

base_small : (o : Option Instr) → IsSmall o → IsSmallX (with_base o)
base_small None h = record { of = tt }
base_small (Some i) h = record { of = h.of }

row_small : (w : ℕ) → IsSmallX (added_row w)
row_small w =
    (either IsSmallX (funct3 w == 0 && rd_of w == 0) _ _ (small_x (Put (rs2_of w) (rs1_of w)) (five _, five _))
    (either IsSmallX (funct3 w == 1 && rs1_of w == 0) _ _ (small_x (Get (rd_of w) (rs2_of w)) (five _, five _))
    (either IsSmallX (funct3 w == 2 && rd_of w == 0 && rs1_of w == 0 && rs2_of w == 0) _ _ (small_x Par tt)
    (either IsSmallX (funct3 w == 3 && rd_of w == 0 && rs1_of w == 0 && rs2_of w == 0) _ _ (small_x Join tt)
    (either IsSmallX (funct3 w == 4 && rd_of w == 0 && rs1_of w == 0 && rs2_of w == 0) _ _ (small_x Back tt)
    (either IsSmallX (funct3 w == 5 && rs1_of w == 0 && rs2_of w == 0) _ _ (small_x (Id (rd_of w)) (five _))
    (either IsSmallX (funct3 w == 6 && rs1_of w == 0 && rs2_of w == 0) _ _ (small_x (Harts (rd_of w)) (five _))
    (record { of = tt }))))))))

decoded_x_small : (w : ℕ) → IsSmallX (decoded_x w)
unfolding decoded_x
decoded_x_small w = either IsSmallX (opcode w == 0x0B && funct7 w == 0) _ _ (row_small w) (base_small (decoded w) (decoded_small w))

read_small : (o : Option ℕ) → IsSmallX (read_by o)
read_small None = record { of = tt }
read_small (Some w) = decoded_x_small w

fetched_small' : (code : List ℕ) (pc : ℕ) → IsSmallX (fetched code pc)
unfolding fetched
fetched_small' code pc = either IsSmallX (nat_le 0x6000_0000 pc && pc % 4 == 0) _ _ (read_small _) (record { of = tt })

pub fetched_small : (code : List ℕ) (pc : ℕ) (i : XInstr) → fetched code pc ≡ Some i → SmallX (Some i)
fetched_small code pc i e = subst SmallX e (fetched_small' code pc).of

within_if : (b : Bool) (code : List ℕ) (n : ℕ) (i : XInstr) → cond b (read_by (slice_get code n)) None ≡ Some i → (b ≡ true) × (n < length code)
within_if false code n i e = cc
within_if true code n i e = (refl, get_within code n i (slice_get code n) refl e)
  where
    get_within : (code : List ℕ) (n : ℕ) (i : XInstr) (o : Option ℕ) → slice_get code n ≡ o → read_by o ≡ Some i → n < length code
    get_within code n i None s e = cc
    get_within code n i (Some x) s e = slice_get_within code n x s

pub fetched_within : (code : List ℕ) (p : ℕ) (i : XInstr) → fetched code (address p) ≡ Some i → p < length code
unfolding fetched
fetched_within code p i e =
    let h = within_if (nat_le 0x6000_0000 (address p) && address p % 4 == 0) code _ i e in
    let q : (0x6000_0000 + 4 * p - 0x6000_0000) / 4 ≡ p = omega arith in
    subst (λ n. n < length code) q h.1
