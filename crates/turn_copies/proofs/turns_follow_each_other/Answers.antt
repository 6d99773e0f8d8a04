use Rattle.turn_copies.proofs.Blocks.{block_turns}
use Rattle.turn_copies.proofs.turns_follow_each_other.Goals as goal

pub returns : goal.returns
returns c = block_turns
