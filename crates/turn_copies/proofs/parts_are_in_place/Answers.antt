use Rattle.turn_copies.proofs.Stubs.{places_law}
use Rattle.turn_copies.proofs.parts_are_in_place.Goals as goal

pub returns : goal.returns
returns c = places_law
