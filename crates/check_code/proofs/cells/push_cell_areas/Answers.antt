use Rattle.std.proofs.Common.{rules}
use Rattle.std.specs.Int.{w32}
use Rattle.std.specs.Int.RustNames.{FitsSigned}
use Rattle.std.proofs.lemmas.Int.{to_z-of_z}
use Rattle.check_code.proofs.CellAppends.{cell_areas_words}
use Rattle.check_code.proofs.cells.push_cell_areas.Goals as goal

pub returns : goal.returns
returns c =
    let f : FitsSigned w32 c.cell_size.result = search rules in
    let x = simp to_z-of_z at c.in_ok-push_immediate.ensures in
    cell_areas_words _ _ _ c.args.areas.now c.args.cell.now c.cell_size.result c.permission_of.result c.cell_size.ensures c.permission_of.ensures x c.in_ok-push_areas.ensures
