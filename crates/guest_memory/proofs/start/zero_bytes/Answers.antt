use Rattle.std.proofs.Common.{rules}
use Rattle.guest_memory.specs.Areas.{zeros}
use Rattle.guest_memory.proofs.start.zero_bytes.Goals as goal

pub returns : goal.returns
unfolding zeros
returns c = search rules
