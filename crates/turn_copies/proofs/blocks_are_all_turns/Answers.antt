use Rattle.turn_copies.proofs.BlockWords.{blocks_law}
use Rattle.turn_copies.proofs.blocks_are_all_turns.Goals as goal

pub returns : goal.returns
returns c = blocks_law
