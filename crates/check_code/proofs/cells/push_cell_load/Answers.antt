use Rattle.check_code.proofs.CellAppends.{cell_load_words}
use Rattle.check_code.proofs.cells.push_cell_load.Goals as goal

pub returns : goal.returns
returns c = cell_load_words _ _ _ c.args.slot c.args.cell.now c.load_op.result c.load_op.ensures c.in_ok-push_load.ensures c.in_ok-push_keep.ensures
