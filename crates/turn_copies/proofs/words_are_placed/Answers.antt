use Rattle.turn_copies.proofs.Listing.{placed_law}
use Rattle.turn_copies.proofs.words_are_placed.Goals as goal

pub returns : goal.returns
returns c = placed_law
