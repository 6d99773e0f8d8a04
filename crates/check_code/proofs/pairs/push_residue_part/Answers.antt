use Rattle.std.proofs.Common.{arith}
use Rattle.std.proofs.lemmas.Bool.Decides.{nat_tests}
use Rattle.check_code.proofs.Joins.{no_residue}
use Rattle.check_code.proofs.pairs.push_residue_part.Goals as goal

pub returns-else-residue-gt0 : goal.returns-else-residue-gt0
returns-else-residue-gt0 c = let h = c.if-residue-gt0.false in no_residue _ c.args.residue c.args.width (grind (arith, nat_tests, h))
