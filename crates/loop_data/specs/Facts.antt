-- What a pass over a loop knows of a location before a word: a number, or the value that a location had at
-- the loop's header and a number. A number is that of a word as a signed one, and a fact is kept only where
-- it is one of 32 bits.
use Rattle.std.specs.Prelude.{ℕ, ◌==◌, ◌+◌, ◌^◌, if◌then◌else◌, nat_le, nat_lt, ℤ, pos, negsuc, ◌+ℤ◌, ◌-ℤ◌, ◌*ℤ◌, Option, Some, None}
use Rattle.rv64_decode.specs.Row.{signed32, signed64}
use Rattle.rv64_decode.specs.declared.instr.Instr.{Instr}
use Rattle.rv64_decode.specs.declared.instr.Instr.TheVariants.{Alu, AluImm, Upper, Load, Store}
use Rattle.rv64_decode.specs.declared.instr.AluOp.{AluOp}
use Rattle.rv64_decode.specs.declared.instr.AluOp.TheVariants.{Add, Sub, Addw, Subw}
use Rattle.rv64_decode.specs.declared.instr.ImmOp.{ImmOp}
use Rattle.rv64_decode.specs.declared.instr.ImmOp.TheVariants.{Addi, Slli, Addiw}
use Rattle.rv64_decode.specs.declared.instr.UpperOp.{UpperOp}
use Rattle.rv64_decode.specs.declared.instr.UpperOp.TheVariants.{Lui, Auipc}
use Rattle.rv64_decode.specs.declared.instr.StoreOp.{StoreOp}
use Rattle.rv64_decode.specs.declared.instr.StoreOp.TheVariants.{Sw}
use Rattle.linear_forms.specs.Forms.{word_of, constant_fits}
use Rattle.loop_data.specs.Locations.{first_cell, instr_writes}
use Rattle.loop_data.specs.LoopCode.{LoopCode, writes}

pub data Fact : Type 0 where
  Number : (number : ℤ) → Fact
  Offset : (loc : ℕ) (number : ℤ) → Fact

-- an integer as the signed number of its word, and of the low half of its word
abbrev pub signed_of : ℤ → ℤ
signed_of z = signed64 (word_of z)

abbrev pub short_of : ℤ → ℤ
short_of z = signed32 (word_of z)

abbrev pub number_in : Fact → ℤ
number_in (Number z) = z
number_in (Offset q z) = z

-- the fact, where its number is one of 32 bits
abbrev pub ranged : Option Fact → Option Fact
ranged None = None
ranged (Some x) = if constant_fits (number_in x) then Some x else None

-- what a register reads: x0 is the number 0
abbrev pub fact_read : (ℕ → Option Fact) → ℕ → Option Fact
fact_read V r = if r == 0 then Some (Number (pos 0)) else V r

-- a known number plus any fact, in either order
abbrev pub fact_sum : Option Fact → Option Fact → Option Fact
fact_sum (Some (Number a)) (Some (Number b)) = Some (Number (a +ℤ b))
fact_sum (Some (Number a)) (Some (Offset q b)) = Some (Offset q (a +ℤ b))
fact_sum (Some (Offset q a)) (Some (Number b)) = Some (Offset q (a +ℤ b))
fact_sum (Some (Offset q a)) (Some (Offset r b)) = None
fact_sum (Some x) None = None
fact_sum None y = None

-- any fact minus a known number
abbrev pub fact_difference : Option Fact → Option Fact → Option Fact
fact_difference (Some (Number a)) (Some (Number b)) = Some (Number (a -ℤ b))
fact_difference (Some (Offset q a)) (Some (Number b)) = Some (Offset q (a -ℤ b))
fact_difference (Some x) (Some (Offset r b)) = None
fact_difference (Some x) None = None
fact_difference None y = None

-- a known number, shifted left by up to 30
abbrev pub fact_shifted : Option Fact → ℤ → Option Fact
fact_shifted (Some (Number a)) (pos n) = if nat_le n 30 then Some (Number (pos (2 ^ n) *ℤ a)) else None
fact_shifted (Some (Number a)) (negsuc n) = None
fact_shifted (Some (Offset q a)) z = None
fact_shifted None z = None

-- a known number is sign-extended from 32 bits
abbrev pub fact_short : Option Fact → Option Fact
fact_short (Some (Number z)) = Some (Number (short_of z))
fact_short (Some (Offset q z)) = Some (Offset q z)
fact_short None = None

abbrev pub alu_fact : AluOp → Option Fact → Option Fact → Option Fact
alu_fact Add x y = ranged (fact_sum x y)
alu_fact Sub x y = ranged (fact_difference x y)
alu_fact Addw x y = ranged (fact_short (fact_sum x y))
alu_fact Subw x y = ranged (fact_short (fact_difference x y))
alu_fact _ x y = None

abbrev pub imm_fact : ImmOp → Option Fact → ℤ → Option Fact
imm_fact Addi x z = ranged (fact_sum x (Some (Number z)))
imm_fact Addiw x z = ranged (fact_short (fact_sum x (Some (Number z))))
imm_fact Slli x z = ranged (fact_shifted x z)
imm_fact _ x z = None

abbrev pub upper_fact : UpperOp → ℕ → ℤ → Option Fact
upper_fact Lui u z = ranged (Some (Number z))
upper_fact Auipc u z = ranged (Some (Number (signed_of (pos u +ℤ z))))

abbrev pub cell_fact : Option ℕ → (ℕ → Option Fact) → Option Fact
cell_fact (Some k) V = V (first_cell + k)
cell_fact None V = None

-- the fact that the word at u, which accesses this cell if any, writes to its register
abbrev pub register_fact : ℕ → Instr → Option ℕ → (ℕ → Option Fact) → Option Fact
register_fact u (Alu op rd rs1 rs2) cell V = alu_fact op (fact_read V rs1) (fact_read V rs2)
register_fact u (AluImm op rd rs1 imm) cell V = imm_fact op (fact_read V rs1) imm
register_fact u (Upper op rd imm) cell V = upper_fact op u imm
register_fact u (Load op rd rs1 imm) cell V = cell_fact cell V
register_fact u _ cell V = None

abbrev pub store_fact : StoreOp → Option Fact → Option Fact
store_fact Sw x = ranged (fact_short x)
store_fact _ x = x

-- the fact that a store writes to its cell
abbrev pub stored_fact : Instr → (ℕ → Option Fact) → Option Fact
stored_fact (Store op rs1 rs2 imm) V = store_fact op (fact_read V rs2)
stored_fact _ V = None

abbrev pub written_fact : ℕ → Option Instr → Option ℕ → ℕ → (ℕ → Option Fact) → Option Fact
written_fact u None cell r V = None
written_fact u (Some i) cell r V = if nat_lt r first_cell then register_fact u i cell V else stored_fact i V

-- what is known of a location after the word at u
abbrev pub fact_after : LoopCode → ℕ → (ℕ → Option Fact) → ℕ → Option Fact
fact_after B u V r = if writes B u r then written_fact u (B.instr u) (B.cells.uses u) r V else V r

-- the same, where the word is this instruction, which accesses this cell if any
abbrev pub fact_past : ℕ → Option Instr → Option ℕ → (ℕ → Option Fact) → ℕ → Option Fact
fact_past u i cell V r = if instr_writes i cell r then written_fact u i cell r V else V r
