-- What stays in range: the fields of an instruction, registers and bytes.
use Rattle.std.specs.Prelude.{ℕ, ◌≡◌, ◌^◌, ◌<◌, List, [], ◌∷◌, length, slice_index}
use Rattle.rv64_decode.specs.Area.{Area}
use Rattle.rv64_decode.specs.Form.{InForm, IsSigned}
use Rattle.rv64_decode.specs.declared.instr.Instr.{Instr}
use Rattle.rv64_decode.specs.declared.instr.Instr.TheVariants.{Alu, AluImm, Upper, Load, Store, Branch, Jal, Jalr, Fence, Ecall, Ebreak}

-- its registers are among the 32
abbrev pub HasRegisters : Instr → Type 0
HasRegisters (Upper op rd imm) = rd < 32
HasRegisters (Jal rd imm) = rd < 32
HasRegisters (Jalr rd rs1 imm) = (rd < 32) × (rs1 < 32)
HasRegisters (Branch op rs1 rs2 imm) = (rs1 < 32) × (rs2 < 32)
HasRegisters (Load op rd rs1 imm) = (rd < 32) × (rs1 < 32)
HasRegisters (Store op rs1 rs2 imm) = (rs1 < 32) × (rs2 < 32)
HasRegisters (AluImm op rd rs1 imm) = (rd < 32) × (rs1 < 32)
HasRegisters (Alu op rd rs1 rs2) = (rd < 32) × (rs1 < 32) × (rs2 < 32)
HasRegisters (Fence rd rs1 imm) = (rd < 32) × (rs1 < 32)
HasRegisters Ecall = Unit {0}
HasRegisters Ebreak = Unit {0}

-- its immediate is a signed number of 32 bits
abbrev pub HasNumber : Instr → Type 0
HasNumber (Upper op rd imm) = IsSigned 32 imm
HasNumber (Jal rd imm) = IsSigned 32 imm
HasNumber (Jalr rd rs1 imm) = IsSigned 32 imm
HasNumber (Branch op rs1 rs2 imm) = IsSigned 32 imm
HasNumber (Load op rd rs1 imm) = IsSigned 32 imm
HasNumber (Store op rs1 rs2 imm) = IsSigned 32 imm
HasNumber (AluImm op rd rs1 imm) = IsSigned 32 imm
HasNumber (Alu op rd rs1 rs2) = Unit {0}
HasNumber (Fence rd rs1 imm) = IsSigned 32 imm
HasNumber Ecall = Unit {0}
HasNumber Ebreak = Unit {0}

-- all its fields are in range, and its immediate in its form
pub record IsInRange (i : Instr) : Type 0 where
  pub registers : HasRegisters i
  pub number : HasNumber i
  pub form : InForm i

-- 32 registers, each a word, of which the first is 0
pub record AreWords (regs : List ℕ) : Type 0 where
  pub count : length regs ≡ 32
  pub zero : slice_index regs 0 ≡ 0
  pub below : (r : ℕ) → slice_index regs r < 2 ^ 64

-- each byte of memory is one
abbrev pub AreBytes : List Area → Type 0
AreBytes [] = Unit {0}
AreBytes (a ∷ rest) = ((i : ℕ) → slice_index a.bytes i < 256) × AreBytes rest
