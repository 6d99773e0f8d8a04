-- The table of instructions: what makes a word each of them, by the manual's "RV32/64G Instruction
-- Set Listings" for RV32I, RV64I, RV32M and RV64M.
use Rattle.std.specs.Prelude.{ℕ, ◌≡◌, ◌==◌, if◌then◌else◌, ◌&&◌, Option, Some, None, ℤ}
use Rattle.rv64_decode.specs.Fields.{opcode, rd_of, funct3, rs1_of, rs2_of, funct7, funct6, amount64, amount32, imm_i, imm_s, imm_b, imm_u, imm_j}
use Rattle.rv64_decode.specs.Operations.{alu_by, alu_w_by, imm_by, imm_w_by, load_by, store_by, branch_by}
use Rattle.rv64_decode.specs.declared.instr.AluOp.{AluOp}
use Rattle.rv64_decode.specs.declared.instr.AluOp.TheVariants.{Add, Sub, Sll, Slt, Sltu, Xor, Srl, Sra, Or, And, Addw, Subw, Sllw, Srlw, Sraw, Mul, Mulh, Mulhsu, Mulhu, Div, Divu, Rem, Remu, Mulw, Divw, Divuw, Remw, Remuw}
use Rattle.rv64_decode.specs.declared.instr.ImmOp.{ImmOp}
use Rattle.rv64_decode.specs.declared.instr.ImmOp.TheVariants.{Addi, Slti, Sltiu, Xori, Ori, Andi, Slli, Srli, Srai, Addiw, Slliw, Srliw, Sraiw}
use Rattle.rv64_decode.specs.declared.instr.UpperOp.{UpperOp}
use Rattle.rv64_decode.specs.declared.instr.UpperOp.TheVariants.{Lui, Auipc}
use Rattle.rv64_decode.specs.declared.instr.LoadOp.{LoadOp}
use Rattle.rv64_decode.specs.declared.instr.LoadOp.TheVariants.{Lb, Lh, Lw, Lbu, Lhu, Lwu, Ld}
use Rattle.rv64_decode.specs.declared.instr.StoreOp.{StoreOp}
use Rattle.rv64_decode.specs.declared.instr.StoreOp.TheVariants.{Sb, Sh, Sw, Sd}
use Rattle.rv64_decode.specs.declared.instr.BranchOp.{BranchOp}
use Rattle.rv64_decode.specs.declared.instr.BranchOp.TheVariants.{Beq, Bne, Blt, Bge, Bltu, Bgeu}
use Rattle.rv64_decode.specs.declared.instr.Instr.{Instr}
use Rattle.rv64_decode.specs.declared.instr.Instr.TheVariants.{Alu, AluImm, Upper, Load, Store, Branch, Jal, Jalr, Fence, Ecall, Ebreak}

-- a word with this opcode and funct3
abbrev pub IsOp : ℕ → ℕ → ℕ → Type 0
IsOp op f3 w = (opcode w ≡ op) × (funct3 w ≡ f3)

-- a word with this opcode, funct3 and funct7: the form R, and the shifts of 32 bits
abbrev pub IsR : ℕ → ℕ → ℕ → ℕ → Type 0
IsR op f3 f7 w = (opcode w ≡ op) × (funct3 w ≡ f3) × (funct7 w ≡ f7)

-- a shift of 64 bits, whose amount takes one bit of funct7
abbrev pub IsShift : ℕ → ℕ → ℕ → Type 0
IsShift f3 f6 w = (opcode w ≡ 0x13) × (funct3 w ≡ f3) × (funct6 w ≡ f6)

-- opcode
abbrev pub IsUpper : UpperOp → ℕ → Type 0
IsUpper Lui w = opcode w ≡ 0x37
IsUpper Auipc w = opcode w ≡ 0x17

-- opcode, funct3
abbrev pub IsBranch : BranchOp → ℕ → Type 0
IsBranch Beq w = IsOp 0x63 0 w
IsBranch Bne w = IsOp 0x63 1 w
IsBranch Blt w = IsOp 0x63 4 w
IsBranch Bge w = IsOp 0x63 5 w
IsBranch Bltu w = IsOp 0x63 6 w
IsBranch Bgeu w = IsOp 0x63 7 w

-- opcode, funct3
abbrev pub IsLoad : LoadOp → ℕ → Type 0
IsLoad Lb w = IsOp 0x03 0 w
IsLoad Lh w = IsOp 0x03 1 w
IsLoad Lw w = IsOp 0x03 2 w
IsLoad Lbu w = IsOp 0x03 4 w
IsLoad Lhu w = IsOp 0x03 5 w
IsLoad Lwu w = IsOp 0x03 6 w
IsLoad Ld w = IsOp 0x03 3 w

-- opcode, funct3
abbrev pub IsStore : StoreOp → ℕ → Type 0
IsStore Sb w = IsOp 0x23 0 w
IsStore Sh w = IsOp 0x23 1 w
IsStore Sw w = IsOp 0x23 2 w
IsStore Sd w = IsOp 0x23 3 w

-- opcode, funct3, and for a shift the bits above its amount
abbrev pub IsImm : ImmOp → ℕ → Type 0
IsImm Addi w = IsOp 0x13 0 w
IsImm Slti w = IsOp 0x13 2 w
IsImm Sltiu w = IsOp 0x13 3 w
IsImm Xori w = IsOp 0x13 4 w
IsImm Ori w = IsOp 0x13 6 w
IsImm Andi w = IsOp 0x13 7 w
IsImm Slli w = IsShift 1 0x00 w
IsImm Srli w = IsShift 5 0x00 w
IsImm Srai w = IsShift 5 0x10 w
IsImm Addiw w = IsOp 0x1B 0 w
IsImm Slliw w = IsR 0x1B 1 0x00 w
IsImm Srliw w = IsR 0x1B 5 0x00 w
IsImm Sraiw w = IsR 0x1B 5 0x20 w

-- opcode, funct3, funct7
abbrev pub IsAlu : AluOp → ℕ → Type 0
IsAlu Add w = IsR 0x33 0 0x00 w
IsAlu Sub w = IsR 0x33 0 0x20 w
IsAlu Sll w = IsR 0x33 1 0x00 w
IsAlu Slt w = IsR 0x33 2 0x00 w
IsAlu Sltu w = IsR 0x33 3 0x00 w
IsAlu Xor w = IsR 0x33 4 0x00 w
IsAlu Srl w = IsR 0x33 5 0x00 w
IsAlu Sra w = IsR 0x33 5 0x20 w
IsAlu Or w = IsR 0x33 6 0x00 w
IsAlu And w = IsR 0x33 7 0x00 w
IsAlu Addw w = IsR 0x3B 0 0x00 w
IsAlu Subw w = IsR 0x3B 0 0x20 w
IsAlu Sllw w = IsR 0x3B 1 0x00 w
IsAlu Srlw w = IsR 0x3B 5 0x00 w
IsAlu Sraw w = IsR 0x3B 5 0x20 w
IsAlu Mul w = IsR 0x33 0 0x01 w
IsAlu Mulh w = IsR 0x33 1 0x01 w
IsAlu Mulhsu w = IsR 0x33 2 0x01 w
IsAlu Mulhu w = IsR 0x33 3 0x01 w
IsAlu Div w = IsR 0x33 4 0x01 w
IsAlu Divu w = IsR 0x33 5 0x01 w
IsAlu Rem w = IsR 0x33 6 0x01 w
IsAlu Remu w = IsR 0x33 7 0x01 w
IsAlu Mulw w = IsR 0x3B 0 0x01 w
IsAlu Divw w = IsR 0x3B 4 0x01 w
IsAlu Divuw w = IsR 0x3B 5 0x01 w
IsAlu Remw w = IsR 0x3B 6 0x01 w
IsAlu Remuw w = IsR 0x3B 7 0x01 w

-- the immediate of an operation: a shift has its amount, any other that of the form I
abbrev pub imm_for : ImmOp → ℕ → ℤ
imm_for Addi w = imm_i w
imm_for Slti w = imm_i w
imm_for Sltiu w = imm_i w
imm_for Xori w = imm_i w
imm_for Ori w = imm_i w
imm_for Andi w = imm_i w
imm_for Addiw w = imm_i w
imm_for Slli w = amount64 w
imm_for Srli w = amount64 w
imm_for Srai w = amount64 w
imm_for Slliw w = amount32 w
imm_for Srliw w = amount32 w
imm_for Sraiw w = amount32 w

-- the word stands for the instruction: its row, and its fields by the form. The fields of a fence are
-- free. ecall and ebreak are one word each
abbrev pub Means : ℕ → Instr → Type 0
Means w (Upper op rd imm) = IsUpper op w × (rd_of w ≡ rd) × (imm_u w ≡ imm)
Means w (Jal rd imm) = (opcode w ≡ 0x6F) × (rd_of w ≡ rd) × (imm_j w ≡ imm)
Means w (Jalr rd rs1 imm) = IsOp 0x67 0 w × (rd_of w ≡ rd) × (rs1_of w ≡ rs1) × (imm_i w ≡ imm)
Means w (Branch op rs1 rs2 imm) = IsBranch op w × (rs1_of w ≡ rs1) × (rs2_of w ≡ rs2) × (imm_b w ≡ imm)
Means w (Load op rd rs1 imm) = IsLoad op w × (rd_of w ≡ rd) × (rs1_of w ≡ rs1) × (imm_i w ≡ imm)
Means w (Store op rs1 rs2 imm) = IsStore op w × (rs1_of w ≡ rs1) × (rs2_of w ≡ rs2) × (imm_s w ≡ imm)
Means w (AluImm op rd rs1 imm) = IsImm op w × (rd_of w ≡ rd) × (rs1_of w ≡ rs1) × (imm_for op w ≡ imm)
Means w (Alu op rd rs1 rs2) = IsAlu op w × (rd_of w ≡ rd) × (rs1_of w ≡ rs1) × (rs2_of w ≡ rs2)
Means w (Fence rd rs1 imm) = IsOp 0x0F 0 w × (rd_of w ≡ rd) × (rs1_of w ≡ rs1) × (imm_i w ≡ imm)
Means w Ecall = w ≡ 0x0000_0073
Means w Ebreak = w ≡ 0x0010_0073

-- the instruction of an operation, where there is one
abbrev pub with_op : {A : Type 0} → (A → Instr) → Option A → Option Instr
with_op make None = None
with_op make (Some op) = Some (make op)

-- the instruction that a word stands for, by its opcode; a word of no row stands for none
abbrev pub decoded : ℕ → Option Instr
decoded w =
    if opcode w == 0x33 then with_op (λ op. Alu op (rd_of w) (rs1_of w) (rs2_of w)) (alu_by (funct3 w) (funct7 w)) else
    if opcode w == 0x3B then
    with_op (λ op. Alu op (rd_of w) (rs1_of w) (rs2_of w)) (alu_w_by (funct3 w) (funct7 w))
    else
    if opcode w == 0x13 then
    with_op (λ op. AluImm op (rd_of w) (rs1_of w) (imm_for op w)) (imm_by (funct3 w) (funct6 w))
    else
    if opcode w == 0x1B then
    with_op (λ op. AluImm op (rd_of w) (rs1_of w) (imm_for op w)) (imm_w_by (funct3 w) (funct7 w))
    else
    if opcode w == 0x37 then Some (Upper Lui (rd_of w) (imm_u w)) else
    if opcode w == 0x17 then Some (Upper Auipc (rd_of w) (imm_u w)) else
    if opcode w == 0x03 then with_op (λ op. Load op (rd_of w) (rs1_of w) (imm_i w)) (load_by (funct3 w)) else
    if opcode w == 0x23 then with_op (λ op. Store op (rs1_of w) (rs2_of w) (imm_s w)) (store_by (funct3 w)) else
    if opcode w == 0x63 then with_op (λ op. Branch op (rs1_of w) (rs2_of w) (imm_b w)) (branch_by (funct3 w)) else
    if opcode w == 0x6F then Some (Jal (rd_of w) (imm_j w)) else
    if opcode w == 0x67 && funct3 w == 0 then Some (Jalr (rd_of w) (rs1_of w) (imm_i w)) else
    if opcode w == 0x0F && funct3 w == 0 then Some (Fence (rd_of w) (rs1_of w) (imm_i w)) else
    if w == 0x0000_0073 then Some Ecall else
    if w == 0x0010_0073 then Some Ebreak else None
