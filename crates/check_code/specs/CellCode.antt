-- The tests of a loop's cells. A cell is aligned, and lies below 2 ^ 31 in an area that permits what is done with it;
-- its value then goes into its slot. Two cells of different bases, of which one is stored, have no byte in common.
use Rattle.std.specs.Prelude.{ℕ, ◌*◌, ◌||◌, if◌then◌else◌, Bool, true, false, List, [], ◌∷◌, ◌++◌, pos}
use Rattle.rv64_decode.specs.declared.instr.ImmOp.TheVariants.{Addi}
use Rattle.rv64_decode.specs.declared.instr.LoadOp.{LoadOp}
use Rattle.rv64_decode.specs.declared.instr.LoadOp.TheVariants.{Lw, Ld}
use Rattle.rv64_decode.specs.declared.instr.BranchOp.TheVariants.{Bge}
use Rattle.rv64_decode.specs.declared.instr.Instr.TheVariants.{AluImm, Load, Branch}
use Rattle.rv64_decode.specs.declared.xinstr.XInstr.{XInstr}
use Rattle.rv64_decode.specs.declared.xinstr.XInstr.TheVariants.{Base, Put}
use Rattle.loop_data.specs.declared.verdict.Cell.{Cell}
use Rattle.loop_data.specs.Locations.{width_of}
use Rattle.alias_checks.specs.Areas.{Bounds}
use Rattle.alias_checks.specs.CellTests.{cell_size, cell_permission, same_base}
use Rattle.stub_laws.specs.Code.{open_jump}
use Rattle.check_code.specs.Macros.{address_code, permitted, areas_code}
use Rattle.check_code.specs.AccessCode.{below_code, aligned_code}

-- a cell of 8 bytes is loaded by ld, one of 4 by lw
abbrev pub load_op : Bool → LoadOp
load_op true = Ld
load_op false = Lw

-- the cell at the address in x5 lies in one of the areas
abbrev pub cell_areas_code : List Bounds → Cell → List XInstr
cell_areas_code areas c =
    Base (AluImm Addi 6 5 (pos (cell_size c))) ∷ areas_code (permitted (cell_permission c) areas)

-- its value into a slot
abbrev pub cell_load_code : ℕ → Cell → List XInstr
cell_load_code slot c = Base (Load (load_op c.wide) 6 5 (pos 0)) ∷ Put slot 6 ∷ []

abbrev pub cell_code : List Bounds → ℕ → Cell → List XInstr
cell_code areas slot c =
    address_code 5 c ++ (aligned_code (width_of c)
    ++ (below_code ++ (cell_areas_code areas c ++ cell_load_code slot c)))

-- the bytes of two cells at the addresses in x5 and x6 are apart
abbrev pub apart_code : Cell → Cell → List XInstr
apart_code c d =
    Base (AluImm Addi 7 5 (pos (cell_size c))) ∷ Base (Branch Bge 6 7 (pos (4 * 4)))
    ∷ Base (AluImm Addi 7 6 (pos (cell_size d))) ∷ Base (Branch Bge 5 7 (pos (4 * 2))) ∷ open_jump ∷ []

abbrev pub both_code : Cell → Cell → List XInstr
both_code c d = address_code 5 c ++ (address_code 6 d ++ apart_code c d)

-- nothing where both have one base, or neither is stored
abbrev pub clear_code : Cell → Cell → List XInstr
clear_code c d = if same_base c.base d.base then [] else if c.stored || d.stored then both_code c d else []
