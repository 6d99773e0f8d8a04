-- What one instruction does (RISC-V unprivileged manual, RV64I and M), in two halves: what it asks of
-- memory, from the registers alone, and what becomes of pc and the registers, given memory's answer.
use Rattle.std.specs.Prelude.{ℕ, ◌==◌, not, ◌+◌, ◌-◌, ◌*◌, ◌/◌, ◌%◌, ◌^◌, if◌then◌else◌, nat_lt, Bool, List, Result, Ok, Err, ℤ, pos, ◌*ℤ◌, bit_xor, bit_and, bit_or, int_lt}
use Rattle.std.specs.Int.{w8, w16, w32, w64, w128, cast_unsigned, cast_signed, int_shr}
use Rattle.std.specs.Int.RustNames.{int_div, int_rem}
use Rattle.rv64_decode.specs.Area.{Area}
use Rattle.rv64_decode.specs.Ask.{Ask, Nothing, Loads, Stores, answer}
use Rattle.rv64_decode.specs.Registers.{register, with_register}
use Rattle.rv64_decode.specs.declared.memory.Width.{Width}
use Rattle.rv64_decode.specs.declared.memory.Width.TheVariants.{One, Two, Four, Eight}
use Rattle.rv64_decode.specs.declared.memory.MemFault.{MemFault}
use Rattle.rv64_decode.specs.declared.outcome.Next.{Next}
use Rattle.rv64_decode.specs.declared.outcome.Next.TheVariants.{At, Call, Fault as Faulting}
use Rattle.rv64_decode.specs.declared.outcome.Fault.{Fault}
use Rattle.rv64_decode.specs.declared.outcome.Fault.TheVariants.{Break, Target, Load as LoadFault, Store as StoreFault}
use Rattle.rv64_decode.specs.declared.instr.AluOp.{AluOp}
use Rattle.rv64_decode.specs.declared.instr.AluOp.TheVariants.{Add, Sll, Slt, Sltu, Xor, Srl, Or, And, Sub, Sra, Mul, Mulh, Mulhsu, Mulhu, Div, Divu, Rem, Remu, Addw, Sllw, Srlw, Subw, Sraw, Mulw, Divw, Divuw, Remw, Remuw}
use Rattle.rv64_decode.specs.declared.instr.ImmOp.{ImmOp}
use Rattle.rv64_decode.specs.declared.instr.ImmOp.TheVariants.{Addi, Slti, Sltiu, Xori, Ori, Andi, Slli, Srli, Srai, Addiw, Slliw, Srliw, Sraiw}
use Rattle.rv64_decode.specs.declared.instr.UpperOp.{UpperOp}
use Rattle.rv64_decode.specs.declared.instr.UpperOp.TheVariants.{Lui, Auipc}
use Rattle.rv64_decode.specs.declared.instr.LoadOp.{LoadOp}
use Rattle.rv64_decode.specs.declared.instr.LoadOp.TheVariants.{Lb, Lh, Lw, Ld, Lbu, Lhu, Lwu}
use Rattle.rv64_decode.specs.declared.instr.StoreOp.{StoreOp}
use Rattle.rv64_decode.specs.declared.instr.StoreOp.TheVariants.{Sb, Sh, Sw, Sd}
use Rattle.rv64_decode.specs.declared.instr.BranchOp.{BranchOp}
use Rattle.rv64_decode.specs.declared.instr.BranchOp.TheVariants.{Beq, Bne, Blt, Bge, Bltu, Bgeu}
use Rattle.rv64_decode.specs.declared.instr.Instr.{Instr}
use Rattle.rv64_decode.specs.declared.instr.Instr.TheVariants.{Alu, AluImm, Upper, Load, Store, Branch, Jal, Jalr, Fence, Ecall, Ebreak}

-- a word plus a signed number, modulo 2 ^ 64: addresses and targets
abbrev pub plus_offset : ℕ → ℤ → ℕ
plus_offset a z = (a + cast_unsigned w64 z) % 2 ^ 64

-- a word as a signed number
abbrev pub signed64 : ℕ → ℤ
signed64 a = cast_signed w64 a

-- the low 32 bits of a word
abbrev pub low32 : ℕ → ℕ
low32 a = a % 2 ^ 32

-- the low 32 bits of a word as a signed number
abbrev pub signed32 : ℕ → ℤ
signed32 a = cast_signed w32 (low32 a)

-- a number of 32 bits, sign-extended to a word
abbrev pub extended32 : ℕ → ℕ
extended32 n = cast_unsigned w64 (cast_signed w32 n)

-- the upper word of the product of two signed words
abbrev pub high_product : ℕ → ℕ → ℕ
high_product a b = cast_unsigned w128 (signed64 a *ℤ signed64 b) / 2 ^ 64

-- the quotient of two numbers of 32 bits, as signed numbers
abbrev pub divided32 : ℕ → ℕ → ℕ
divided32 a b =
    if b == 0 then 2 ^ 64 - 1 else extended32 (cast_unsigned w32 (int_div (cast_signed w32 a) (cast_signed w32 b)))

-- the remainder of two numbers of 32 bits, as signed numbers
abbrev pub remainder32 : ℕ → ℕ → ℕ
remainder32 a b = if b == 0 then extended32 a else cast_unsigned w64 (int_rem (cast_signed w32 a) (cast_signed w32 b))

-- 1 where a comparison holds
abbrev pub from_test : Bool → ℕ
from_test b = if b then 1 else 0

-- what an operation on two words gives: "Integer Register-Register Operations" of RV32I and RV64I,
-- then "Multiplication Operations" and "Division Operations" of M. Division rounds toward zero, and
-- its remainder has the dividend's sign; by zero the quotient is all ones, and the remainder the
-- dividend
abbrev pub alu : AluOp → ℕ → ℕ → ℕ
alu Add a b = (a + b) % 2 ^ 64
alu Sub a b = (a + (2 ^ 64 - b)) % 2 ^ 64
alu Sll a b = a * 2 ^ (b % 64) % 2 ^ 64
alu Slt a b = from_test (int_lt (signed64 a) (signed64 b))
alu Sltu a b = from_test (nat_lt a b)
alu Xor a b = bit_xor a b
alu Srl a b = a / 2 ^ (b % 64)
alu Sra a b = cast_unsigned w64 (int_shr (signed64 a) (b % 64))
alu Or a b = bit_or a b
alu And a b = bit_and a b
alu Addw a b = extended32 ((low32 a + low32 b) % 2 ^ 32)
alu Subw a b = extended32 ((low32 a + (2 ^ 32 - low32 b)) % 2 ^ 32)
alu Sllw a b = extended32 (low32 a * 2 ^ (b % 32) % 2 ^ 32)
alu Srlw a b = extended32 (low32 a / 2 ^ (b % 32))
alu Sraw a b = cast_unsigned w64 (int_shr (signed32 a) (b % 32))
alu Mul a b = a * b % 2 ^ 64
alu Mulh a b = high_product a b
alu Mulhsu a b = cast_unsigned w128 (signed64 a *ℤ pos b) / 2 ^ 64
alu Mulhu a b = a * b / 2 ^ 64
alu Div a b = if b == 0 then 2 ^ 64 - 1 else cast_unsigned w64 (int_div (signed64 a) (signed64 b))
alu Divu a b = if b == 0 then 2 ^ 64 - 1 else a / b
alu Rem a b = if b == 0 then a else cast_unsigned w64 (int_rem (signed64 a) (signed64 b))
alu Remu a b = if b == 0 then a else a % b
alu Mulw a b = extended32 (low32 a * low32 b % 2 ^ 32)
alu Divw a b = divided32 (low32 a) (low32 b)
alu Divuw a b = if low32 b == 0 then 2 ^ 64 - 1 else extended32 (low32 a / low32 b)
alu Remw a b = remainder32 (low32 a) (low32 b)
alu Remuw a b = if low32 b == 0 then extended32 (low32 a) else extended32 (low32 a % low32 b)

-- the operation on two words that an operation with an immediate is
abbrev pub register_op : ImmOp → AluOp
register_op Addi = Add
register_op Slti = Slt
register_op Sltiu = Sltu
register_op Xori = Xor
register_op Ori = Or
register_op Andi = And
register_op Slli = Sll
register_op Srli = Srl
register_op Srai = Sra
register_op Addiw = Addw
register_op Slliw = Sllw
register_op Srliw = Srlw
register_op Sraiw = Sraw

-- "Integer Register-Immediate Instructions": the second word is the immediate, sign-extended
abbrev pub alu_imm : ImmOp → ℕ → ℤ → ℕ
alu_imm op a z = alu (register_op op) a (cast_unsigned w64 z)

-- lui gives the immediate, sign-extended, and auipc adds it to pc
abbrev pub upper : UpperOp → ℕ → ℤ → ℕ
upper Lui pc z = cast_unsigned w64 z
upper Auipc pc z = plus_offset pc z

-- "Load and Store Instructions": how many bytes a load reads
abbrev pub load_width : LoadOp → Width
load_width Lb = One
load_width Lh = Two
load_width Lw = Four
load_width Lbu = One
load_width Lhu = Two
load_width Lwu = Four
load_width Ld = Eight

-- the loaded number as a word
abbrev pub extended : LoadOp → ℕ → ℕ
extended Lb n = cast_unsigned w64 (cast_signed w8 n)
extended Lh n = cast_unsigned w64 (cast_signed w16 n)
extended Lw n = cast_unsigned w64 (cast_signed w32 n)
extended Lbu n = n
extended Lhu n = n
extended Lwu n = n
extended Ld n = n

-- how many bytes a store writes
abbrev pub store_width : StoreOp → Width
store_width Sb = One
store_width Sh = Two
store_width Sw = Four
store_width Sd = Eight

-- "Conditional Branches": whether a branch is taken
abbrev pub taken : BranchOp → ℕ → ℕ → Bool
taken Beq a b = a == b
taken Bne a b = not (a == b)
taken Blt a b = int_lt (signed64 a) (signed64 b)
taken Bge a b = not (int_lt (signed64 a) (signed64 b))
taken Bltu a b = nat_lt a b
taken Bgeu a b = not (nat_lt a b)

-- the first half: what the instruction asks of memory
abbrev pub asks : Instr → List ℕ → Ask
asks (Load op rd rs1 imm) regs = Loads (plus_offset (register regs rs1) imm) (load_width op)
asks (Store op rs1 rs2 imm) regs = Stores (plus_offset (register regs rs1) imm) (store_width op) (register regs rs2)
asks _ regs = Nothing

-- where an instruction leads, and the registers that it leaves
pub record Outcome : Type 0 where
  pub next : Next
  pub regs : List ℕ

-- the run does not go on by the instruction alone: a fault, or a call of the environment
abbrev pub IsStop : Next → Type 0
IsStop (At addr) = ⊥
IsStop Call = Unit {0}
IsStop (Faulting kind addr) = Unit {0}

-- the address after the instruction
abbrev pub next_pc : ℕ → ℕ
next_pc pc = (pc + 4) % 2 ^ 64

-- the run goes on after the instruction
abbrev pub onward : ℕ → List ℕ → Outcome
onward pc regs = record { next = At (next_pc pc); regs = regs }

-- a fault, which changes nothing
abbrev pub stopped : Fault → ℕ → List ℕ → Outcome
stopped kind addr regs = record { next = Faulting kind addr; regs = regs }

-- a jump, whose target has to be a multiple of 4; the first registers are those before it
abbrev pub jump : ℕ → List ℕ → List ℕ → Outcome
jump target old new = if target % 4 == 0 then record { next = At target; regs = new } else stopped Target target old

-- a load, given memory's answer
abbrev pub loaded : LoadOp → ℕ → ℕ → ℕ → List ℕ → Result ℕ MemFault → Outcome
loaded op rd addr pc regs (Ok n) = onward pc (with_register regs rd (extended op n))
loaded op rd addr pc regs (Err why) = stopped (LoadFault why) addr regs

-- a store, given memory's answer
abbrev pub stored : ℕ → ℕ → List ℕ → Result ℕ MemFault → Outcome
stored addr pc regs (Ok n) = onward pc regs
stored addr pc regs (Err why) = stopped (StoreFault why) addr regs

-- the second half: what becomes of pc and registers, given memory's answer. "Unconditional Jumps":
-- rd gets the address after the jump, and jalr reads rs1 first and clears the lowest bit of its sum
abbrev pub row : Instr → ℕ → List ℕ → Result ℕ MemFault → Outcome
row (Upper op rd imm) pc regs told = onward pc (with_register regs rd (upper op pc imm))
row (Jal rd imm) pc regs told = jump (plus_offset pc imm) regs (with_register regs rd (next_pc pc))
row (Jalr rd rs1 imm) pc regs told =
    let target = plus_offset (register regs rs1) imm in
    jump (target - target % 2) regs (with_register regs rd (next_pc pc))
row (Branch op rs1 rs2 imm) pc regs told =
    if taken op (register regs rs1) (register regs rs2) then jump (plus_offset pc imm) regs regs else onward pc regs
row (Load op rd rs1 imm) pc regs told = loaded op rd (plus_offset (register regs rs1) imm) pc regs told
row (Store op rs1 rs2 imm) pc regs told = stored (plus_offset (register regs rs1) imm) pc regs told
row (AluImm op rd rs1 imm) pc regs told = onward pc (with_register regs rd (alu_imm op (register regs rs1) imm))
row (Alu op rd rs1 rs2) pc regs told =
    onward pc (with_register regs rd (alu op (register regs rs1) (register regs rs2)))
row (Fence rd rs1 imm) pc regs told = onward pc regs
row Ecall pc regs told = record { next = Call; regs = regs }
row Ebreak pc regs told = stopped Break pc regs

-- the two halves, joined by memory's answer
abbrev pub outcome : Instr → ℕ → List ℕ → List Area → Outcome
outcome i pc regs m = row i pc regs (answer m (asks i regs))
