use Rattle.turn_copies.proofs.Edges.{save_law}
use Rattle.turn_copies.proofs.registers_are_saved.Goals as goal

pub returns : goal.returns
returns c = save_law
