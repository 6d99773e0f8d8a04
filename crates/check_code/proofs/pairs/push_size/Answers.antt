use Rattle.std.proofs.Common.{arith}
use Rattle.std.proofs.lemmas.Bool.Decides.{nat_tests}
use Rattle.check_code.proofs.Joins.{no_size}
use Rattle.check_code.proofs.pairs.push_size.Goals as goal

pub returns-else-size-gt0 : goal.returns-else-size-gt0
returns-else-size-gt0 c = let h = c.if-size-gt0.false in no_size _ c.args.size c.args.slot (grind (arith, nat_tests, h))
