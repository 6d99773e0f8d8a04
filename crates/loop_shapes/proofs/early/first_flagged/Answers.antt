use Rattle.std.proofs.Common.{arith}
use Rattle.loop_shapes.proofs.early.first_flagged.Goals as goal

pub least_flagged-requires : goal.least_flagged-requires
least_flagged-requires c i m = let l = c.requires.each i m in let n = c.requires.count in omega arith
