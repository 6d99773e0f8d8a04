-- Where a word of code leads, as far as it and the word before it tell (RISC-V unprivileged manual,
-- "Unconditional Jumps" and "Conditional Branches" of RV32I).
use Rattle.std.specs.Prelude.{ℕ, ◌==◌, ◌+◌, ◌-◌, ◌/◌, ◌%◌, ◌^◌, Bool, false, ◌&&◌, ◌||◌, not, if◌then◌else◌, List, [], ◌∷◌, ◌++◌, Option, Some, None, pos}
use Rattle.std.specs.Ordering.{int_eq}
use Rattle.rv64_decode.specs.Table.{decoded}
use Rattle.rv64_decode.specs.Row.{plus_offset, next_pc}
use Rattle.rv64_decode.specs.declared.instr.ImmOp.TheVariants.{Addi}
use Rattle.rv64_decode.specs.declared.instr.UpperOp.TheVariants.{Auipc}
use Rattle.rv64_decode.specs.declared.instr.Instr.{Instr}
use Rattle.rv64_decode.specs.declared.instr.Instr.TheVariants.{AluImm, Upper, Branch, Jal, Jalr, Ecall, Ebreak}
use Rattle.elf_image.specs.declared.image.Elf.{Elf}
use Rattle.loop_data.specs.Code.{word_at}

-- where a word leads: by step edges, the next word first, and by a call edge
pub record Targets : Type 0 where
  pub steps : List ℕ
  pub call : Option ℕ

-- the target of a call edge, if there is one
abbrev pub called : Option ℕ → List ℕ
called None = []
called (Some target) = target ∷ []

-- all addresses to which a word leads
abbrev pub successors : Targets → List ℕ
successors t = t.steps ++ called t.call

-- an address, and another if it is another one
abbrev pub each_once : ℕ → ℕ → List ℕ
each_once a b = if a == b then a ∷ [] else a ∷ b ∷ []

-- to no word that is known
abbrev pub nowhere : Targets
nowhere = record { steps = []; call = None }

-- by step edges alone
abbrev pub steps_to : List ℕ → Targets
steps_to xs = record { steps = xs; call = None }

-- to the next word
abbrev pub on_from : ℕ → Targets
on_from at = steps_to (next_pc at ∷ [])

-- to the next word, and to a target by a call
abbrev pub call_from : ℕ → ℕ → Targets
call_from at target = record { steps = next_pc at ∷ []; call = Some target }

-- to a target, by a call where a register is linked
abbrev pub jump_from : ℕ → ℕ → ℕ → Targets
jump_from rd at target = if rd == 0 then steps_to (target ∷ []) else call_from at target

-- the address of the word before one
abbrev pub before : ℕ → ℕ
before at = (at + (2 ^ 64 - 4)) % 2 ^ 64

-- the instruction that a word stands for
unfoldable pub instr_of : ℕ → Option Instr
instr_of w = decoded w

-- the instruction at an address
abbrev pub instr_from : Option ℕ → Option Instr
instr_from None = None
instr_from (Some w) = instr_of w

unfoldable pub instr_at : Elf → ℕ → Option Instr
instr_at elf at = instr_from (word_at elf at)

-- the instruction is `addi a7, x0, 93` or `addi a7, x0, 94`: the next ecall is exit or exit_group
abbrev pub asks_exit : Option Instr → Bool
asks_exit (Some (AluImm Addi rd rs1 imm)) = rd == 17 && rs1 == 0 && (int_eq imm (pos 93) || int_eq imm (pos 94))
asks_exit _ = false

-- where an instruction leads. `ends` says that an ecall ends the program, and `pair` is the target of
-- a jalr that is known from an auipc before it
abbrev pub targets_by : Instr → ℕ → Bool → Option ℕ → Targets
targets_by (Branch op rs1 rs2 imm) at ends pair = steps_to (each_once (next_pc at) (plus_offset at imm))
targets_by (Jal rd imm) at ends pair = jump_from rd at (plus_offset at imm)
targets_by (Jalr rd rs1 imm) at ends (Some target) = jump_from rd at target
targets_by (Jalr rd rs1 imm) at ends None = if rd == 0 then nowhere else on_from at
targets_by Ecall at ends pair = if ends then nowhere else on_from at
targets_by Ebreak at ends pair = nowhere
targets_by _ at ends pair = on_from at

-- where a word outside the table leads: on, if it is 32 bits long ("Expanded Instruction-Length
-- Encoding": bits 1:0 are 11 and bits 4:2 are not 111)
abbrev pub targets_outside : ℕ → ℕ → Targets
targets_outside w at = if w % 4 == 3 && not (w / 4 % 8 == 7) then on_from at else nowhere

abbrev pub targets_of : Option Instr → ℕ → ℕ → Bool → Option ℕ → Targets
targets_of None w at ends pair = targets_outside w at
targets_of (Some i) w at ends pair = targets_by i at ends pair

-- where there is no word of code, nothing leads on
abbrev pub targets_from : Option ℕ → ℕ → Bool → Option ℕ → Targets
targets_from None at ends pair = nowhere
targets_from (Some w) at ends pair = targets_of (instr_of w) w at ends pair

-- where the word at an address leads, with what is known of a pair that it ends
unfoldable pub targets_at : Elf → Option ℕ → ℕ → Targets
targets_at elf pair at = targets_from (word_at elf at) at (asks_exit (instr_at elf (before at))) pair

-- the target of an auipc and a jalr on the register that the auipc writes, the jalr at the address: the
-- sum of the auipc's address and both immediates, with bit 0 cleared
abbrev pub pair_by : Instr → Instr → ℕ → Option ℕ
pair_by (Upper Auipc base high) (Jalr rd rs1 low) at =
    let target = plus_offset (plus_offset (before at) high) low in
    if base == rs1 then Some (target - target % 2) else None
pair_by _ _ at = None

abbrev pub pair_of : Option Instr → Option Instr → ℕ → Option ℕ
pair_of (Some first) (Some second) at = pair_by first second at
pair_of _ _ at = None

-- the target of the pair that ends at an address, if one does
unfoldable pub pair_at : Elf → ℕ → Option ℕ
pair_at elf at = pair_of (instr_at elf (before at)) (instr_at elf at) at
