use Rattle.std.proofs.Common.{ap}
use Rattle.stub_laws.proofs.Appends.{joined, as_list}
use Rattle.check_code.specs.AccessCode.{aligned_code}
use Rattle.check_code.proofs.cells.push_cell.Goals as goal

pub returns : goal.returns
returns c =
    joined _ _ _ _ _ c.in_ok-push_site.ensures (joined _ _ _ _ _ (as_list _ _ _ _ c.in_ok-push_aligned.ensures (ap aligned_code c.width_of.ensures))
    (joined _ _ _ _ _ c.in_ok-push_below.ensures (joined _ _ _ _ _ c.in_ok-push_cell_areas.ensures c.in_ok-push_cell_load.ensures)))
