-- The forms that instructions write, out of the forms of what they read.
use Rattle.std.specs.Prelude.{ℕ, ◌==◌, ◌+◌, ◌^◌, Bool, true, false, ◌&&◌, if◌then◌else◌, nat_le, nat_lt, List, [], ◌∷◌, ℤ, pos, negsuc, ◌+ℤ◌, Option, Some, None}
use Rattle.rv64_decode.specs.declared.instr.Instr.{Instr}
use Rattle.rv64_decode.specs.declared.instr.Instr.TheVariants.{Alu, AluImm, Upper, Load, Store}
use Rattle.rv64_decode.specs.declared.instr.AluOp.{AluOp}
use Rattle.rv64_decode.specs.declared.instr.AluOp.TheVariants.{Add, Sub, Addw, Subw, Mul, Mulw}
use Rattle.rv64_decode.specs.declared.instr.ImmOp.{ImmOp}
use Rattle.rv64_decode.specs.declared.instr.ImmOp.TheVariants.{Addi, Slli, Addiw, Slliw}
use Rattle.rv64_decode.specs.declared.instr.UpperOp.{UpperOp}
use Rattle.rv64_decode.specs.declared.instr.UpperOp.TheVariants.{Lui, Auipc}
use Rattle.rv64_decode.specs.declared.instr.StoreOp.{StoreOp}
use Rattle.rv64_decode.specs.declared.instr.StoreOp.TheVariants.{Sw}
use Rattle.linear_forms.specs.Forms.{EntryTerm, LinearForm, is_zero, is_small, sum_of, difference, multiple, limited, pure}
use Rattle.loop_data.specs.Locations.{first_cell}
use Rattle.loop_data.specs.LoopCode.{LoopCode, writes}
use Rattle.loop_data.specs.Facts.{signed_of, short_of}

-- what a register reads: x0 is the constant 0
abbrev pub form_read : (ℕ → Option LinearForm) → ℕ → Option LinearForm
form_read F r = if r == 0 then Some (pure (pos 0)) else F r

-- sums, differences and multiples, whatever their size
abbrev pub form_sum : Option LinearForm → Option LinearForm → Option LinearForm
form_sum (Some f) (Some g) = Some (sum_of f g)
form_sum (Some f) None = None
form_sum None g = None

abbrev pub form_difference : Option LinearForm → Option LinearForm → Option LinearForm
form_difference (Some f) (Some g) = Some (difference f g)
form_difference (Some f) None = None
form_difference None g = None

abbrev pub form_multiple : ℤ → Option LinearForm → Option LinearForm
form_multiple by (Some f) = Some (multiple by f)
form_multiple by None = None

-- shifted left by up to 30
abbrev pub form_shifted : Option LinearForm → ℤ → Option LinearForm
form_shifted f (pos n) = if nat_le n 30 then form_multiple (pos (2 ^ n)) f else None
form_shifted f (negsuc n) = None

abbrev pub is_empty : List EntryTerm → Bool
is_empty [] = true
is_empty (t ∷ ts) = false

-- a form without terms and strides
abbrev pub is_pure : LinearForm → Bool
is_pure f = is_empty f.terms && (is_zero f.first && (is_zero f.second && is_zero f.third))

-- a pure constant by which a form may be multiplied
abbrev pub is_factor : LinearForm → Bool
is_factor f = is_pure f && is_small f.constant

-- the product of two of which one is such a constant
abbrev pub form_product : Option LinearForm → Option LinearForm → Option LinearForm
form_product (Some f) (Some g) =
    if is_factor g then Some (multiple g.constant f) else if is_factor f then Some (multiple f.constant g) else None
form_product (Some f) None = None
form_product None g = None

-- the form, where it keeps to the limits
abbrev pub form_limited : Option LinearForm → Option LinearForm
form_limited (Some f) = limited f
form_limited None = None

-- what is left of a form by an instruction on words of 32 bits: a pure constant is sign-extended, and any
-- other stays, where it keeps to the limits and its values are numbers of 32 bits
abbrev pub form_short : Option LinearForm → Option LinearForm
form_short (Some f) = if is_pure f then Some (pure (short_of f.constant)) else limited f
form_short None = None

-- that form, whose values have to be numbers of 32 bits
abbrev pub form_owed : Option LinearForm → Option LinearForm
form_owed (Some f) = if is_pure f then None else limited f
form_owed None = None

abbrev pub alu_form : AluOp → Option LinearForm → Option LinearForm → Option LinearForm
alu_form Add f g = form_limited (form_sum f g)
alu_form Sub f g = form_limited (form_difference f g)
alu_form Mul f g = form_limited (form_product f g)
alu_form Addw f g = form_short (form_sum f g)
alu_form Subw f g = form_short (form_difference f g)
alu_form Mulw f g = form_short (form_product f g)
alu_form _ f g = None

abbrev pub imm_form : ImmOp → Option LinearForm → ℤ → Option LinearForm
imm_form Addi f z = form_limited (form_sum f (Some (pure z)))
imm_form Slli f z = form_limited (form_shifted f z)
imm_form Addiw f z = form_short (form_sum f (Some (pure z)))
imm_form Slliw f z = form_short (form_shifted f z)
imm_form _ f z = None

abbrev pub upper_form : UpperOp → ℕ → ℤ → Option LinearForm
upper_form Lui u z = limited (pure z)
upper_form Auipc u z = limited (pure (signed_of (pos u +ℤ z)))

abbrev pub cell_form : Option ℕ → (ℕ → Option LinearForm) → Option LinearForm
cell_form (Some k) F = F (first_cell + k)
cell_form None F = None

-- the form that the word at u, which accesses this cell if any, writes to its register
abbrev pub register_form : ℕ → Instr → Option ℕ → (ℕ → Option LinearForm) → Option LinearForm
register_form u (Alu op rd rs1 rs2) cell F = alu_form op (form_read F rs1) (form_read F rs2)
register_form u (AluImm op rd rs1 imm) cell F = imm_form op (form_read F rs1) imm
register_form u (Upper op rd imm) cell F = upper_form op u imm
register_form u (Load op rd rs1 imm) cell F = cell_form cell F
register_form u _ cell F = None

abbrev pub store_form : StoreOp → Option LinearForm → Option LinearForm
store_form Sw f = form_short f
store_form _ f = f

-- the form that a store writes to its cell
abbrev pub stored_form : Instr → (ℕ → Option LinearForm) → Option LinearForm
stored_form (Store op rs1 rs2 imm) F = store_form op (form_read F rs2)
stored_form _ F = None

abbrev pub written_form : ℕ → Option Instr → Option ℕ → ℕ → (ℕ → Option LinearForm) → Option LinearForm
written_form u None cell r F = None
written_form u (Some i) cell r F = if nat_lt r first_cell then register_form u i cell F else stored_form i F

-- the form of a location after the word at u
abbrev pub form_after : LoopCode → ℕ → (ℕ → Option LinearForm) → ℕ → Option LinearForm
form_after B u F r = if writes B u r then written_form u (B.instr u) (B.cells.uses u) r F else F r

-- the form that an instruction writes where its values are numbers of 32 bits. One that writes to x0 owes
-- nothing
abbrev pub alu_duty : AluOp → Option LinearForm → Option LinearForm → Option LinearForm
alu_duty Addw f g = form_owed (form_sum f g)
alu_duty Subw f g = form_owed (form_difference f g)
alu_duty Mulw f g = form_owed (form_product f g)
alu_duty _ f g = None

abbrev pub imm_duty : ImmOp → Option LinearForm → ℤ → Option LinearForm
imm_duty Addiw f z = form_owed (form_sum f (Some (pure z)))
imm_duty Slliw f z = form_owed (form_shifted f z)
imm_duty _ f z = None

abbrev pub store_duty : StoreOp → Option LinearForm → Option LinearForm
store_duty Sw f = form_owed f
store_duty _ f = None

abbrev pub duty_by : Instr → Option ℕ → (ℕ → Option LinearForm) → Option LinearForm
duty_by (Alu op rd rs1 rs2) cell F = if rd == 0 then None else alu_duty op (form_read F rs1) (form_read F rs2)
duty_by (AluImm op rd rs1 imm) cell F = if rd == 0 then None else imm_duty op (form_read F rs1) imm
duty_by (Store op rs1 rs2 imm) (Some k) F = store_duty op (form_read F rs2)
duty_by _ cell F = None

abbrev pub duty_from : Option Instr → Option ℕ → (ℕ → Option LinearForm) → Option LinearForm
duty_from None cell F = None
duty_from (Some i) cell F = duty_by i cell F

-- the form whose values have to be numbers of 32 bits at the word at u
abbrev pub duty : LoopCode → ℕ → (ℕ → Option LinearForm) → Option LinearForm
duty B u F = duty_from (B.instr u) (B.cells.uses u) F
