-- The test of an access: it begins below 2 ^ 31 and aligned, and its range over all turns and passes lies in an area
-- that permits it.
use Rattle.std.specs.Prelude.{ℕ, ◌-◌, List, [], ◌∷◌, ◌++◌, pos}
use Rattle.rv64_decode.specs.Area.{bytes_of}
use Rattle.rv64_decode.specs.declared.memory.Width.{Width}
use Rattle.rv64_decode.specs.declared.instr.ImmOp.TheVariants.{Srli, Andi}
use Rattle.rv64_decode.specs.declared.instr.BranchOp.TheVariants.{Beq}
use Rattle.rv64_decode.specs.declared.instr.Instr.TheVariants.{AluImm}
use Rattle.rv64_decode.specs.declared.xinstr.XInstr.{XInstr}
use Rattle.rv64_decode.specs.declared.xinstr.XInstr.TheVariants.{Base}
use Rattle.loop_data.specs.declared.accesses.Access.{Access}
use Rattle.alias_checks.specs.Areas.{Bounds}
use Rattle.alias_checks.specs.AccessTests.{access_permission}
use Rattle.check_code.specs.Macros.{form_code, low_code, high_code, need_code, permitted, areas_code}
use Rattle.check_code.specs.Rounds.{own_form, own_slots}

-- the least address of an access, and the end of its last bytes
abbrev pub access_low : ℕ → Access → List XInstr
access_low r a = low_code r (own_form a.form a.around) (own_slots a.around)

abbrev pub access_end : ℕ → Access → List XInstr
access_end r a = high_code r (own_form a.form a.around) (own_slots a.around) (bytes_of a.width)

-- the bits of x5 from bit 31 on are 0
abbrev pub below_code : List XInstr
below_code = Base (AluImm Srli 6 5 (pos 31)) ∷ need_code Beq 6 0

-- x5 is a multiple of the width
abbrev pub aligned_code : Width → List XInstr
aligned_code width = Base (AluImm Andi 6 5 (pos (bytes_of width - 1))) ∷ need_code Beq 6 0

abbrev pub access_code : List Bounds → Access → List XInstr
access_code areas a =
    form_code 5 a.form ++ (below_code ++ (aligned_code a.width
    ++ (access_low 5 a ++ (access_end 6 a ++ areas_code (permitted (access_permission a) areas)))))
