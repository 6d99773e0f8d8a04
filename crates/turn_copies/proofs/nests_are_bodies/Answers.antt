use Rattle.turn_copies.proofs.NestBodies.{nest_law}
use Rattle.turn_copies.proofs.nests_are_bodies.Goals as goal

pub returns : goal.returns
returns c = nest_law
