-- Within an opcode, the function numbers of a word name an operation exactly where the word is in that
-- operation's row.
use Rattle.std.proofs.Common.{ℕ, ◌≡◌, Some, arith}
use Rattle.std.proofs.lemmas.Bool.Decides.{nat_tests}
use Rattle.rv64_decode.specs.Fields.{opcode, funct3, funct6, funct7}
use Rattle.rv64_decode.specs.Table.{IsAlu, IsImm}
use Rattle.rv64_decode.specs.Operations.{alu_by, alu_w_by, imm_by, imm_w_by}
use Rattle.rv64_decode.specs.declared.instr.AluOp.{AluOp}
use Rattle.rv64_decode.specs.declared.instr.ImmOp.{ImmOp}

pub alu33_forth : (w : ℕ) (op : AluOp) → opcode w ≡ 0x33 → alu_by (funct3 w) (funct7 w) ≡ Some op → IsAlu op w
alu33_forth w op e h = grind (arith, nat_tests)

pub alu33_back : (w : ℕ) (op : AluOp) → opcode w ≡ 0x33 → IsAlu op w → alu_by (funct3 w) (funct7 w) ≡ Some op
alu33_back w op e h = grind (arith, nat_tests)

pub alu3b_forth : (w : ℕ) (op : AluOp) → opcode w ≡ 0x3B → alu_w_by (funct3 w) (funct7 w) ≡ Some op → IsAlu op w
alu3b_forth w op e h = grind (arith, nat_tests)

pub alu3b_back : (w : ℕ) (op : AluOp) → opcode w ≡ 0x3B → IsAlu op w → alu_w_by (funct3 w) (funct7 w) ≡ Some op
alu3b_back w op e h = grind (arith, nat_tests)

pub imm13_forth : (w : ℕ) (op : ImmOp) → opcode w ≡ 0x13 → imm_by (funct3 w) (funct6 w) ≡ Some op → IsImm op w
imm13_forth w op e h = grind (arith, nat_tests)

pub imm13_back : (w : ℕ) (op : ImmOp) → opcode w ≡ 0x13 → IsImm op w → imm_by (funct3 w) (funct6 w) ≡ Some op
imm13_back w op e h = grind (arith, nat_tests)

pub imm1b_forth : (w : ℕ) (op : ImmOp) → opcode w ≡ 0x1B → imm_w_by (funct3 w) (funct7 w) ≡ Some op → IsImm op w
imm1b_forth w op e h = grind (arith, nat_tests)

pub imm1b_back : (w : ℕ) (op : ImmOp) → opcode w ≡ 0x1B → IsImm op w → imm_w_by (funct3 w) (funct7 w) ≡ Some op
imm1b_back w op e h = grind (arith, nat_tests)
