use Rattle.std.proofs.Common.{arith}
use Rattle.std.proofs.lemmas.Bool.Decides.{nat_tests}
use Rattle.check_code.proofs.Joins.{no_lanes}
use Rattle.check_code.proofs.pairs.push_lane_part.Goals as goal

pub returns-else-lanes-gt0 : goal.returns-else-lanes-gt0
returns-else-lanes-gt0 c = let h = c.if-lanes-gt0.false in no_lanes _ c.args.lanes c.args.width c.args.words (grind (arith, nat_tests, h))
