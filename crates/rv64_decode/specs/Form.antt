-- Which instructions have a word: those whose immediates are in their forms, by the manual's
-- "Immediate Encoding Variants" and, for the amounts of shifts, "Integer Register-Immediate
-- Instructions" of RV32I and RV64I.
use Rattle.std.specs.Prelude.{ℕ, ◌≡◌, ◌-◌, ◌%◌, ◌^◌, ℤ, pos, negsuc, ◌≤ℤ◌}
use Rattle.std.specs.Int.{w32, cast_unsigned}
use Rattle.rv64_decode.specs.declared.instr.ImmOp.{ImmOp}
use Rattle.rv64_decode.specs.declared.instr.ImmOp.TheVariants.{Addi, Slti, Sltiu, Xori, Ori, Andi, Slli, Srli, Srai, Addiw, Slliw, Srliw, Sraiw}
use Rattle.rv64_decode.specs.declared.instr.Instr.{Instr}
use Rattle.rv64_decode.specs.declared.instr.Instr.TheVariants.{Alu, AluImm, Upper, Load, Store, Branch, Jal, Jalr, Fence, Ecall, Ebreak}

-- a signed number of k bits
abbrev pub IsSigned : ℕ → ℤ → Type 0
IsSigned k z = (negsuc (2 ^ (k - 1) - 1) ≤ℤ z) × (z ≤ℤ pos (2 ^ (k - 1) - 1))

-- the amount of a shift, at most n
abbrev pub IsAmount : ℕ → ℤ → Type 0
IsAmount n z = (pos 0 ≤ℤ z) × (z ≤ℤ pos n)

-- the k low bits are 0
abbrev pub IsMultiple : ℕ → ℤ → Type 0
IsMultiple k z = cast_unsigned w32 z % 2 ^ k ≡ 0

-- the immediate of an operation with one
abbrev pub ImmForm : ImmOp → ℤ → Type 0
ImmForm Addi z = IsSigned 12 z
ImmForm Slti z = IsSigned 12 z
ImmForm Sltiu z = IsSigned 12 z
ImmForm Xori z = IsSigned 12 z
ImmForm Ori z = IsSigned 12 z
ImmForm Andi z = IsSigned 12 z
ImmForm Slli z = IsAmount 63 z
ImmForm Srli z = IsAmount 63 z
ImmForm Srai z = IsAmount 63 z
ImmForm Addiw z = IsSigned 12 z
ImmForm Slliw z = IsAmount 31 z
ImmForm Srliw z = IsAmount 31 z
ImmForm Sraiw z = IsAmount 31 z

-- the immediate of an instruction, if it has one, is in its form
abbrev pub InForm : Instr → Type 0
InForm (Upper op rd imm) = IsMultiple 12 imm
InForm (Jal rd imm) = IsSigned 21 imm × IsMultiple 1 imm
InForm (Jalr rd rs1 imm) = IsSigned 12 imm
InForm (Branch op rs1 rs2 imm) = IsSigned 13 imm × IsMultiple 1 imm
InForm (Load op rd rs1 imm) = IsSigned 12 imm
InForm (Store op rs1 rs2 imm) = IsSigned 12 imm
InForm (AluImm op rd rs1 imm) = ImmForm op imm
InForm (Alu op rd rs1 rs2) = Unit {0}
InForm (Fence rd rs1 imm) = IsSigned 12 imm
InForm Ecall = Unit {0}
InForm Ebreak = Unit {0}
