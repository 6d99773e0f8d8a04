use Rattle.turn_copies.proofs.Regions.{region_law}
use Rattle.turn_copies.proofs.a_hart_executes_its_block.Goals as goal

pub returns : goal.returns
returns c = region_law
