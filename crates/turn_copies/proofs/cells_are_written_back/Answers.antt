use Rattle.turn_copies.proofs.Leaving.{leave_law}
use Rattle.turn_copies.proofs.cells_are_written_back.Goals as goal

pub returns : goal.returns
returns c = leave_law
