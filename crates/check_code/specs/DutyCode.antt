-- The words that test a duty: the least and the greatest value of its form over all turns and passes are signed numbers
-- of 32 bits. That its value at turn numbers 0 is one keeps the other two from wrapping.
use Rattle.std.specs.Prelude.{◌-◌, ◌^◌, List, ◌∷◌, ◌++◌, ℤ, pos, negsuc}
use Rattle.rv64_decode.specs.declared.instr.ImmOp.TheVariants.{Addiw}
use Rattle.rv64_decode.specs.declared.instr.BranchOp.TheVariants.{Beq, Bge}
use Rattle.rv64_decode.specs.declared.instr.Instr.TheVariants.{AluImm}
use Rattle.rv64_decode.specs.declared.xinstr.XInstr.{XInstr}
use Rattle.rv64_decode.specs.declared.xinstr.XInstr.TheVariants.{Base}
use Rattle.loop_data.specs.declared.equations.Duty.{Duty}
use Rattle.check_code.specs.Macros.{number_code, form_code, low_code, high_code, need_code}
use Rattle.check_code.specs.Rounds.{own_slots, own_form}

-- the least and the greatest signed number of 32 bits
abbrev pub least_short : ℤ
least_short = negsuc (2 ^ 31 - 1)

abbrev pub greatest_short : ℤ
greatest_short = pos (2 ^ 31 - 1)

-- x5 is a signed number of 32 bits
abbrev pub short_code : List XInstr
short_code = Base (AluImm Addiw 6 5 (pos 0)) ∷ need_code Beq 5 6

-- the numbers from x5 to x6 are
abbrev pub shorts_code : List XInstr
shorts_code = number_code 7 least_short ++ (need_code Bge 5 7 ++ (number_code 7 greatest_short ++ need_code Bge 7 6))

abbrev pub duty_code : Duty → List XInstr
duty_code d =
    form_code 5 d.form ++ (short_code ++ (low_code 5 (own_form d.form d.around) (own_slots d.around)
    ++ (high_code 6 (own_form d.form d.around) (own_slots d.around) 0 ++ shorts_code)))
