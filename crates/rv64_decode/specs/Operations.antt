-- Which operation the function numbers of a word name, opcode by opcode: the manual's "RV32/64G
-- Instruction Set Listings", read from the numbers to the mnemonic.
use Rattle.std.specs.Prelude.{ℕ, ◌==◌, if◌then◌else◌, ◌&&◌, Option, Some, None}
use Rattle.rv64_decode.specs.declared.instr.AluOp.{AluOp}
use Rattle.rv64_decode.specs.declared.instr.AluOp.TheVariants.{Add, Sub, Sll, Slt, Sltu, Xor, Srl, Sra, Or, And, Addw, Subw, Sllw, Srlw, Sraw, Mul, Mulh, Mulhsu, Mulhu, Div, Divu, Rem, Remu, Mulw, Divw, Divuw, Remw, Remuw}
use Rattle.rv64_decode.specs.declared.instr.ImmOp.{ImmOp}
use Rattle.rv64_decode.specs.declared.instr.ImmOp.TheVariants.{Addi, Slti, Sltiu, Xori, Ori, Andi, Slli, Srli, Srai, Addiw, Slliw, Srliw, Sraiw}
use Rattle.rv64_decode.specs.declared.instr.LoadOp.{LoadOp}
use Rattle.rv64_decode.specs.declared.instr.LoadOp.TheVariants.{Lb, Lh, Lw, Lbu, Lhu, Lwu, Ld}
use Rattle.rv64_decode.specs.declared.instr.StoreOp.{StoreOp}
use Rattle.rv64_decode.specs.declared.instr.StoreOp.TheVariants.{Sb, Sh, Sw, Sd}
use Rattle.rv64_decode.specs.declared.instr.BranchOp.{BranchOp}
use Rattle.rv64_decode.specs.declared.instr.BranchOp.TheVariants.{Beq, Bne, Blt, Bge, Bltu, Bgeu}

-- opcode 0x33: two registers, by funct3 and funct7
abbrev pub alu_by : ℕ → ℕ → Option AluOp
alu_by f3 f7 =
    if f3 == 0 && f7 == 0x00 then Some Add else
    if f3 == 1 && f7 == 0x00 then Some Sll else
    if f3 == 2 && f7 == 0x00 then Some Slt else
    if f3 == 3 && f7 == 0x00 then Some Sltu else
    if f3 == 4 && f7 == 0x00 then Some Xor else
    if f3 == 5 && f7 == 0x00 then Some Srl else
    if f3 == 6 && f7 == 0x00 then Some Or else
    if f3 == 7 && f7 == 0x00 then Some And else
    if f3 == 0 && f7 == 0x20 then Some Sub else
    if f3 == 5 && f7 == 0x20 then Some Sra else
    if f3 == 0 && f7 == 0x01 then Some Mul else
    if f3 == 1 && f7 == 0x01 then Some Mulh else
    if f3 == 2 && f7 == 0x01 then Some Mulhsu else
    if f3 == 3 && f7 == 0x01 then Some Mulhu else
    if f3 == 4 && f7 == 0x01 then Some Div else
    if f3 == 5 && f7 == 0x01 then Some Divu else
    if f3 == 6 && f7 == 0x01 then Some Rem else
    if f3 == 7 && f7 == 0x01 then Some Remu else
    None

-- opcode 0x3B: two registers, 32 bits, by funct3 and funct7
abbrev pub alu_w_by : ℕ → ℕ → Option AluOp
alu_w_by f3 f7 =
    if f3 == 0 && f7 == 0x00 then Some Addw else
    if f3 == 1 && f7 == 0x00 then Some Sllw else
    if f3 == 5 && f7 == 0x00 then Some Srlw else
    if f3 == 0 && f7 == 0x20 then Some Subw else
    if f3 == 5 && f7 == 0x20 then Some Sraw else
    if f3 == 0 && f7 == 0x01 then Some Mulw else
    if f3 == 4 && f7 == 0x01 then Some Divw else
    if f3 == 5 && f7 == 0x01 then Some Divuw else
    if f3 == 6 && f7 == 0x01 then Some Remw else
    if f3 == 7 && f7 == 0x01 then Some Remuw else
    None

-- opcode 0x13: an immediate, by funct3, and for a shift the six high bits
abbrev pub imm_by : ℕ → ℕ → Option ImmOp
imm_by f3 f6 =
    if f3 == 0 then Some Addi else
    if f3 == 2 then Some Slti else
    if f3 == 3 then Some Sltiu else
    if f3 == 4 then Some Xori else
    if f3 == 6 then Some Ori else
    if f3 == 7 then Some Andi else
    if f3 == 1 && f6 == 0x00 then Some Slli else
    if f3 == 5 && f6 == 0x00 then Some Srli else
    if f3 == 5 && f6 == 0x10 then Some Srai else
    None

-- opcode 0x1B: an immediate, 32 bits, by funct3, and for a shift funct7
abbrev pub imm_w_by : ℕ → ℕ → Option ImmOp
imm_w_by f3 f7 =
    if f3 == 0 then Some Addiw else
    if f3 == 1 && f7 == 0x00 then Some Slliw else
    if f3 == 5 && f7 == 0x00 then Some Srliw else
    if f3 == 5 && f7 == 0x20 then Some Sraiw else
    None

-- opcode 0x03: a load, by funct3
abbrev pub load_by : ℕ → Option LoadOp
load_by f3 =
    if f3 == 0 then Some Lb else
    if f3 == 1 then Some Lh else
    if f3 == 2 then Some Lw else
    if f3 == 3 then Some Ld else
    if f3 == 4 then Some Lbu else
    if f3 == 5 then Some Lhu else
    if f3 == 6 then Some Lwu else
    None

-- opcode 0x23: a store, by funct3
abbrev pub store_by : ℕ → Option StoreOp
store_by f3 =
    if f3 == 0 then Some Sb else
    if f3 == 1 then Some Sh else
    if f3 == 2 then Some Sw else
    if f3 == 3 then Some Sd else
    None

-- opcode 0x63: a branch, by funct3
abbrev pub branch_by : ℕ → Option BranchOp
branch_by f3 =
    if f3 == 0 then Some Beq else
    if f3 == 1 then Some Bne else
    if f3 == 4 then Some Blt else
    if f3 == 5 then Some Bge else
    if f3 == 6 then Some Bltu else
    if f3 == 7 then Some Bgeu else
    None
