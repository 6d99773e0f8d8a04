-- Instructions one after the other that neither jump nor access memory, as one step. Registers and slots are
-- functions of their numbers.
use Rattle.std.specs.Prelude.{ℕ, ◌==◌, if◌then◌else◌, List, [], ◌∷◌}
use Rattle.std.specs.Int.{w64, cast_unsigned}
use Rattle.rv64_decode.specs.Row.{alu, alu_imm}
use Rattle.rv64_decode.specs.declared.instr.UpperOp.TheVariants.{Lui}
use Rattle.rv64_decode.specs.declared.instr.Instr.TheVariants.{Alu, AluImm, Upper}
use Rattle.rv64_decode.specs.declared.xinstr.XInstr.{XInstr}
use Rattle.rv64_decode.specs.declared.xinstr.XInstr.TheVariants.{Base, Put, Get}

-- what a register reads
abbrev pub read : (ℕ → ℕ) → ℕ → ℕ
read f r = if r == 0 then 0 else f r

-- registers or slots after a write
abbrev pub put : (ℕ → ℕ) → ℕ → ℕ → ℕ → ℕ
put f r v q = if q == r then v else f q

-- it asks nothing of memory, reads no pc, and the next instruction follows
abbrev pub IsSimple : XInstr → Type 0
IsSimple (Base (Alu op rd rs1 rs2)) = Unit {0}
IsSimple (Base (AluImm op rd rs1 imm)) = Unit {0}
IsSimple (Base (Upper Lui rd imm)) = Unit {0}
IsSimple (Put slot rs1) = Unit {0}
IsSimple (Get rd slot) = Unit {0}
IsSimple i = ⊥

-- the registers after such an instruction
abbrev pub effect : XInstr → (ℕ → ℕ) → (ℕ → ℕ) → ℕ → ℕ
effect (Base (Alu op rd rs1 rs2)) f g = put f rd (alu op (read f rs1) (read f rs2))
effect (Base (AluImm op rd rs1 imm)) f g = put f rd (alu_imm op (read f rs1) imm)
effect (Base (Upper op rd imm)) f g = put f rd (cast_unsigned w64 imm)
effect (Get rd slot) f g = put f rd (g slot)
effect i f g = f

-- the slots after it
abbrev pub slot_effect : XInstr → (ℕ → ℕ) → (ℕ → ℕ) → ℕ → ℕ
slot_effect (Put slot rs1) f g = put g slot (read f rs1)
slot_effect i f g = g

abbrev pub AreSimple : List XInstr → Type 0
AreSimple [] = Unit {0}
AreSimple (i ∷ is) = IsSimple i × AreSimple is

-- the registers and the slots after all of them
abbrev pub all_registers : List XInstr → (ℕ → ℕ) → (ℕ → ℕ) → ℕ → ℕ
all_registers [] f g = f
all_registers (i ∷ is) f g = all_registers is (effect i f g) (slot_effect i f g)

abbrev pub all_slots : List XInstr → (ℕ → ℕ) → (ℕ → ℕ) → ℕ → ℕ
all_slots [] f g = g
all_slots (i ∷ is) f g = all_slots is (effect i f g) (slot_effect i f g)
