use Rattle.std.proofs.Common.{rules}
use Rattle.std.specs.Int.{w32}
use Rattle.std.specs.Int.RustNames.{FitsSigned}
use Rattle.std.proofs.lemmas.Int.{to_z-of_z}
use Rattle.check_code.proofs.CellAppends.{apart_words}
use Rattle.check_code.proofs.cells.push_apart.Goals as goal

pub returns : goal.returns
returns c =
    let f : FitsSigned w32 c.cell_size.result = search rules in
    let g : FitsSigned w32 c.cell_size-2.result = search rules in
    let x = simp to_z-of_z at c.in_ok-push_immediate.ensures in
    let y = simp to_z-of_z at c.in_ok-push_immediate-2.ensures in
    apart_words _ _ _ _ _ _ c.args.first.now c.args.second.now c.cell_size.result c.cell_size-2.result c.cell_size.ensures c.cell_size-2.ensures x c.in_ok-push_over.ensures y c.in_ok-push_over-2.ensures c.in_ok-push_open.ensures
