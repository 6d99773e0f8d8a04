use Rattle.turn_copies.proofs.Edges.{refuse_law}
use Rattle.turn_copies.proofs.registers_are_restored.Goals as goal

pub returns : goal.returns
returns c = refuse_law
