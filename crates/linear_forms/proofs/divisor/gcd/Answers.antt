use Rattle.std.proofs.Common.{arith}
use Rattle.std.proofs.lemmas.Nat.Gcd.{IsGcd-from_mod, IsGcd-from_zero}
use Rattle.linear_forms.proofs.divisor.gcd.Goals as goal

pub loop-smaller-preserved : goal.loop-smaller-preserved
loop-smaller-preserved c = λ g h. c.loop-smaller.invariant g (IsGcd-from_mod _ _ g h)

pub returns : goal.returns
returns c = c.loop-smaller.invariant c.loop-smaller.larger (IsGcd-from_zero _ _ (omega arith))
