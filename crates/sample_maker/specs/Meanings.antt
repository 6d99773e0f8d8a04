-- Words that mean the instructions that they are named for, whatever their registers and immediates.
use Rattle.std.specs.Prelude.{ℕ, ◌≡◌, ◌+◌, ◌-◌, ◌*◌, ◌/◌, ◌%◌, ◌^◌, ◌<◌, ℤ, pos, ◌+ℤ◌}
use Rattle.rv64_decode.specs.Fields.{signed}
use Rattle.rv64_decode.specs.Form.{IsSigned, IsMultiple}
use Rattle.rv64_decode.specs.Table.{Means}
use Rattle.rv64_decode.specs.declared.instr.AluOp.{AluOp}
use Rattle.rv64_decode.specs.declared.instr.ImmOp.{ImmOp}
use Rattle.rv64_decode.specs.declared.instr.UpperOp.TheVariants.{Lui}
use Rattle.rv64_decode.specs.declared.instr.LoadOp.{LoadOp}
use Rattle.rv64_decode.specs.declared.instr.StoreOp.{StoreOp}
use Rattle.rv64_decode.specs.declared.instr.BranchOp.{BranchOp}
use Rattle.rv64_decode.specs.declared.instr.Instr.TheVariants.{Alu, AluImm, Upper, Load, Store, Branch}

-- words by rd, rs1 and rs2
abbrev pub MeanAlu : (ℕ → ℕ → ℕ → ℕ) → AluOp → Type 0
MeanAlu word op = (rd rs1 rs2 : ℕ) → rd < 32 → rs1 < 32 → rs2 < 32 → Means (word rd rs1 rs2) (Alu op rd rs1 rs2)

-- words by rd, rs1 and a signed number of 12 bits
abbrev pub MeanImm : (ℕ → ℕ → ℤ → ℕ) → ImmOp → Type 0
MeanImm word op =
    (rd rs1 : ℕ) (imm : ℤ) → rd < 32 → rs1 < 32 → IsSigned 12 imm → Means (word rd rs1 imm) (AluImm op rd rs1 imm)

-- words by rd, the offset and rs1
abbrev pub MeanLoad : (ℕ → ℤ → ℕ → ℕ) → LoadOp → Type 0
MeanLoad word op =
    (rd rs1 : ℕ) (imm : ℤ) → rd < 32 → rs1 < 32 → IsSigned 12 imm → Means (word rd imm rs1) (Load op rd rs1 imm)

-- words by rs2, the offset and rs1
abbrev pub MeanStore : (ℕ → ℤ → ℕ → ℕ) → StoreOp → Type 0
MeanStore word op =
    (rs1 rs2 : ℕ) (imm : ℤ) → rs1 < 32 → rs2 < 32 → IsSigned 12 imm → Means (word rs2 imm rs1) (Store op rs1 rs2 imm)

-- words by rs1, rs2 and an even offset
abbrev pub MeanBranch : (ℕ → ℕ → ℤ → ℕ) → BranchOp → Type 0
MeanBranch word op =
    (rs1 rs2 : ℕ) (imm : ℤ) → rs1 < 32 → rs2 < 32 → IsSigned 13 imm → IsMultiple 1 imm
    → Means (word rs1 rs2 imm) (Branch op rs1 rs2 imm)

-- words by rd and the upper 20 bits of a number below 2 ^ 31
abbrev pub MeanLui : (ℕ → ℕ → ℕ) → Type 0
MeanLui word = (rd upper : ℕ) → rd < 32 → upper < 2 ^ 19 → Means (word rd upper) (Upper Lui rd (pos (upper * 2 ^ 12)))

-- a number is the multiple of 2 ^ 12 nearest to it, and its low 12 bits as a signed number
abbrev pub NearestAndLow : Type 0
NearestAndLow = (n : ℕ) → pos ((n + 2 ^ 11) / 2 ^ 12 * 2 ^ 12) +ℤ signed 12 (n % 2 ^ 12) ≡ pos n

-- the multiple and the signed number fit in the two words
abbrev pub NearestFits : Type 0
NearestFits = (n : ℕ) → n < 2 ^ 31 - 2 ^ 11 → (n + 2 ^ 11) / 2 ^ 12 < 2 ^ 19

abbrev pub LowFits : Type 0
LowFits = (n : ℕ) → IsSigned 12 (signed 12 (n % 2 ^ 12))
