-- The test of a cell and an access, of which one is stored: they have no byte in common.
use Rattle.std.specs.Prelude.{◌*◌, ◌||◌, if◌then◌else◌, List, [], ◌∷◌, ◌++◌, pos}
use Rattle.rv64_decode.specs.declared.instr.ImmOp.TheVariants.{Addi}
use Rattle.rv64_decode.specs.declared.instr.BranchOp.TheVariants.{Bge}
use Rattle.rv64_decode.specs.declared.instr.Instr.TheVariants.{AluImm, Branch}
use Rattle.rv64_decode.specs.declared.xinstr.XInstr.{XInstr}
use Rattle.rv64_decode.specs.declared.xinstr.XInstr.TheVariants.{Base}
use Rattle.loop_data.specs.declared.accesses.Access.{Access}
use Rattle.loop_data.specs.declared.verdict.Cell.{Cell}
use Rattle.alias_checks.specs.CellTests.{cell_size}
use Rattle.stub_laws.specs.Code.{open_jump}
use Rattle.check_code.specs.Macros.{address_code}
use Rattle.check_code.specs.AccessCode.{access_low, access_end}

-- the ranges from x5 to x6 and from x7 to x28 have no byte in common
abbrev pub disjoint_code : List XInstr
disjoint_code = Base (Branch Bge 7 6 (pos (4 * 3))) ∷ Base (Branch Bge 5 28 (pos (4 * 2))) ∷ open_jump ∷ []

abbrev pub meet_code : Cell → Access → List XInstr
meet_code c a =
    address_code 5 c ++ (Base (AluImm Addi 6 5 (pos (cell_size c)))
    ∷ (access_low 7 a ++ (access_end 28 a ++ disjoint_code)))

-- nothing where neither is stored
abbrev pub keep_off_code : Cell → Access → List XInstr
keep_off_code c a = if c.stored || a.store then meet_code c a else []
