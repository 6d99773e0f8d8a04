-- The check of a loop as added code: its tests one after the other, in the order of the check over integers. Each that
-- fails leads to the open target.
use Rattle.std.specs.Prelude.{ℕ, zero, suc, Bool, true, false, pos, List, [], ◌∷◌, ◌++◌, flat_map, Option, Some, slice_get}
use Rattle.rv64_decode.specs.declared.instr.Instr.TheVariants.{Alu, AluImm, Upper, Load, Branch, Jal}
use Rattle.rv64_decode.specs.declared.xinstr.XInstr.{XInstr}
use Rattle.rv64_decode.specs.declared.xinstr.XInstr.TheVariants.{Base, Put, Get}
use Rattle.loop_data.specs.declared.accesses.Access.{Access}
use Rattle.loop_data.specs.declared.plans.Term.{Term}
use Rattle.loop_data.specs.declared.trips.Trip.{Trip}
use Rattle.loop_data.specs.declared.verdict.Cell.{Cell}
use Rattle.alias_checks.specs.declared.lists.Check.{Check}
use Rattle.alias_checks.specs.Areas.{Bounds}
use Rattle.alias_checks.specs.Listing.{Pair}
use Rattle.check_code.specs.CellCode.{cell_code, clear_code}
use Rattle.check_code.specs.TurnCode.{root_code, inner_code}
use Rattle.check_code.specs.DutyCode.{duty_code}
use Rattle.check_code.specs.AccessCode.{access_code}
use Rattle.check_code.specs.MeetCode.{keep_off_code}
use Rattle.check_code.specs.PairCode.{pair_code}

-- each cell, whose slots are numbered from this one on
abbrev pub cells_code : List Bounds → ℕ → List Cell → List XInstr
cells_code areas slot [] = []
cells_code areas slot (c ∷ cs) = cell_code areas slot c ++ cells_code areas (suc slot) cs

-- each two cells
abbrev pub all_clear_code : List Cell → List XInstr
all_clear_code [] = []
all_clear_code (c ∷ cs) = flat_map (clear_code c) cs ++ all_clear_code cs

-- the inner loops, whose slots are numbered from this one on
abbrev pub inners_code : ℕ → List Trip → List XInstr
inners_code slot [] = []
inners_code slot (t ∷ ts) = inner_code slot t ++ inners_code (suc slot) ts

-- the root, and its inner loops
abbrev pub trips_code : List Trip → List XInstr
trips_code [] = []
trips_code (t ∷ ts) = root_code t ++ inners_code 24 ts

-- each cell with each access
abbrev pub all_keep_off_code : List Cell → List Access → List XInstr
all_keep_off_code cells accesses = flat_map (λ (c : Cell). flat_map (keep_off_code c) accesses) cells

-- the pair of the accesses at two places
abbrev pub pair_of_code : Option Access → Option Access → Term → List XInstr
pair_of_code (Some a) (Some b) term = pair_code a b term
pair_of_code first second term = []

abbrev pub pair_at_code : List Access → Pair → List XInstr
pair_at_code accesses t = pair_of_code (slice_get accesses t.0) (slice_get accesses t.1) t.2

abbrev pub check_code : Check → List XInstr
check_code c =
    cells_code c.areas 0 c.cells.list.items ++ (all_clear_code c.cells.list.items
    ++ (trips_code c.trips
    ++ (flat_map duty_code c.duties
    ++ (flat_map (access_code c.areas) c.accesses.list.items
    ++ (all_keep_off_code c.cells.list.items c.accesses.list.items
    ++ flat_map (pair_at_code c.accesses.list.items) c.pairs)))))

-- an instruction that neither stores nor calls, and that jumps to the open target if at all
abbrev pub is_check_word : XInstr → Bool
is_check_word (Base (Alu op rd rs1 rs2)) = true
is_check_word (Base (AluImm op rd rs1 imm)) = true
is_check_word (Base (Upper op rd imm)) = true
is_check_word (Base (Load op rd rs1 imm)) = true
is_check_word (Base (Branch op rs1 rs2 imm)) = true
is_check_word (Base (Jal zero (pos zero))) = true
is_check_word (Put slot rs1) = true
is_check_word (Get rd slot) = true
is_check_word i = false
