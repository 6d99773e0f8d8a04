use Rattle.turn_copies.proofs.Listing.{body_law, size_law}
use Rattle.turn_copies.proofs.copies_stand_in_order.Goals as goal

pub returns-clause-copies : goal.returns-clause-copies
returns-clause-copies c = body_law

pub returns-clause-size : goal.returns-clause-size
returns-clause-size c = size_law
