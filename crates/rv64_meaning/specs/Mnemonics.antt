-- Instructions in one form for all: the operation by its mnemonic alone, as the manual's "RV32/64G
-- Instruction Set Listings" names it, and each field that some form has.
use Rattle.std.specs.Prelude.{Option, Some, None, unwrap_or}
use Rattle.rv64_decode.specs.Table.{with_op}
use Rattle.rv64_decode.specs.declared.instr.AluOp.{AluOp}
use Rattle.rv64_decode.specs.declared.instr.ImmOp.{ImmOp}
use Rattle.rv64_decode.specs.declared.instr.UpperOp.{UpperOp}
use Rattle.rv64_decode.specs.declared.instr.LoadOp.{LoadOp}
use Rattle.rv64_decode.specs.declared.instr.StoreOp.{StoreOp}
use Rattle.rv64_decode.specs.declared.instr.BranchOp.{BranchOp}
use Rattle.rv64_decode.specs.declared.instr.Instr.{Instr}
use Rattle.rv64_decode.specs.declared.instr.Instr.TheVariants.{Alu, AluImm, Upper, Load, Store, Branch, Jal, Jalr, Fence, Ecall, Ebreak}
use Rattle.rv64_meaning.specs.declared.mnemonic.Mnemonic.{Mnemonic}
use Rattle.rv64_meaning.specs.declared.decoded.Decoded.{Decoded}

-- the operation, if it is one on two registers
abbrev pub alu_op : Mnemonic → Option AluOp
alu_op Mnemonic.Add = Some AluOp.Add
alu_op Mnemonic.Sub = Some AluOp.Sub
alu_op Mnemonic.Sll = Some AluOp.Sll
alu_op Mnemonic.Slt = Some AluOp.Slt
alu_op Mnemonic.Sltu = Some AluOp.Sltu
alu_op Mnemonic.Xor = Some AluOp.Xor
alu_op Mnemonic.Srl = Some AluOp.Srl
alu_op Mnemonic.Sra = Some AluOp.Sra
alu_op Mnemonic.Or = Some AluOp.Or
alu_op Mnemonic.And = Some AluOp.And
alu_op Mnemonic.Addw = Some AluOp.Addw
alu_op Mnemonic.Subw = Some AluOp.Subw
alu_op Mnemonic.Sllw = Some AluOp.Sllw
alu_op Mnemonic.Srlw = Some AluOp.Srlw
alu_op Mnemonic.Sraw = Some AluOp.Sraw
alu_op Mnemonic.Mul = Some AluOp.Mul
alu_op Mnemonic.Mulh = Some AluOp.Mulh
alu_op Mnemonic.Mulhsu = Some AluOp.Mulhsu
alu_op Mnemonic.Mulhu = Some AluOp.Mulhu
alu_op Mnemonic.Div = Some AluOp.Div
alu_op Mnemonic.Divu = Some AluOp.Divu
alu_op Mnemonic.Rem = Some AluOp.Rem
alu_op Mnemonic.Remu = Some AluOp.Remu
alu_op Mnemonic.Mulw = Some AluOp.Mulw
alu_op Mnemonic.Divw = Some AluOp.Divw
alu_op Mnemonic.Divuw = Some AluOp.Divuw
alu_op Mnemonic.Remw = Some AluOp.Remw
alu_op Mnemonic.Remuw = Some AluOp.Remuw
alu_op _ = None

-- the operation, if it is one on a register and an immediate
abbrev pub imm_op : Mnemonic → Option ImmOp
imm_op Mnemonic.Addi = Some ImmOp.Addi
imm_op Mnemonic.Slti = Some ImmOp.Slti
imm_op Mnemonic.Sltiu = Some ImmOp.Sltiu
imm_op Mnemonic.Xori = Some ImmOp.Xori
imm_op Mnemonic.Ori = Some ImmOp.Ori
imm_op Mnemonic.Andi = Some ImmOp.Andi
imm_op Mnemonic.Slli = Some ImmOp.Slli
imm_op Mnemonic.Srli = Some ImmOp.Srli
imm_op Mnemonic.Srai = Some ImmOp.Srai
imm_op Mnemonic.Addiw = Some ImmOp.Addiw
imm_op Mnemonic.Slliw = Some ImmOp.Slliw
imm_op Mnemonic.Srliw = Some ImmOp.Srliw
imm_op Mnemonic.Sraiw = Some ImmOp.Sraiw
imm_op _ = None

-- the operation, if it is one of an upper immediate
abbrev pub upper_op : Mnemonic → Option UpperOp
upper_op Mnemonic.Lui = Some UpperOp.Lui
upper_op Mnemonic.Auipc = Some UpperOp.Auipc
upper_op _ = None

-- the operation, if it is a load
abbrev pub load_op : Mnemonic → Option LoadOp
load_op Mnemonic.Lb = Some LoadOp.Lb
load_op Mnemonic.Lh = Some LoadOp.Lh
load_op Mnemonic.Lw = Some LoadOp.Lw
load_op Mnemonic.Lbu = Some LoadOp.Lbu
load_op Mnemonic.Lhu = Some LoadOp.Lhu
load_op Mnemonic.Lwu = Some LoadOp.Lwu
load_op Mnemonic.Ld = Some LoadOp.Ld
load_op _ = None

-- the operation, if it is a store
abbrev pub store_op : Mnemonic → Option StoreOp
store_op Mnemonic.Sb = Some StoreOp.Sb
store_op Mnemonic.Sh = Some StoreOp.Sh
store_op Mnemonic.Sw = Some StoreOp.Sw
store_op Mnemonic.Sd = Some StoreOp.Sd
store_op _ = None

-- the operation, if it is a branch
abbrev pub branch_op : Mnemonic → Option BranchOp
branch_op Mnemonic.Beq = Some BranchOp.Beq
branch_op Mnemonic.Bne = Some BranchOp.Bne
branch_op Mnemonic.Blt = Some BranchOp.Blt
branch_op Mnemonic.Bge = Some BranchOp.Bge
branch_op Mnemonic.Bltu = Some BranchOp.Bltu
branch_op Mnemonic.Bgeu = Some BranchOp.Bgeu
branch_op _ = None

-- the instruction, if it is of a form without operations
abbrev pub other_instr : Decoded → Mnemonic → Instr
other_instr d Mnemonic.Jal = Jal d.rd d.imm
other_instr d Mnemonic.Jalr = Jalr d.rd d.rs1 d.imm
other_instr d Mnemonic.Fence = Fence d.rd d.rs1 d.imm
other_instr d Mnemonic.Ecall = Ecall
other_instr d _ = Ebreak

-- the instruction that the fields stand for
abbrev pub instr_of : Decoded → Instr
instr_of d =
    unwrap_or (with_op (λ op. Alu op d.rd d.rs1 d.rs2) (alu_op d.mnemonic))
    (unwrap_or (with_op (λ op. AluImm op d.rd d.rs1 d.imm) (imm_op d.mnemonic))
    (unwrap_or (with_op (λ op. Upper op d.rd d.imm) (upper_op d.mnemonic))
    (unwrap_or (with_op (λ op. Load op d.rd d.rs1 d.imm) (load_op d.mnemonic))
    (unwrap_or (with_op (λ op. Store op d.rs1 d.rs2 d.imm) (store_op d.mnemonic))
    (unwrap_or (with_op (λ op. Branch op d.rs1 d.rs2 d.imm) (branch_op d.mnemonic))
    (other_instr d d.mnemonic))))))
