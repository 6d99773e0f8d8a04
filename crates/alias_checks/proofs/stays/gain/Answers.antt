use Rattle.std.proofs.Common.{sym, subst, ℤ, pos, negsuc, ◌^◌, ◌≤ℤ◌}
use Rattle.alias_checks.proofs.Products.{gain_is, gain_most, gain_low, gain_high}
use Rattle.alias_checks.proofs.stays.gain.Goals as goal

pub returns-clause-value : goal.returns-clause-value
returns-clause-value c = gain_is c.args.step c.args.turns c.ranges.step c.requires

pub returns-clause-low : goal.returns-clause-low
returns-clause-low c =
    subst (λ (z : ℤ). negsuc (2 ^ 94) ≤ℤ z) (sym (gain_is c.args.step c.args.turns c.ranges.step c.requires))
    (gain_low _ (gain_most c.args.step c.args.turns c.ranges.step c.requires))

pub returns-clause-high : goal.returns-clause-high
returns-clause-high c =
    subst (λ (z : ℤ). z ≤ℤ pos (2 ^ 94)) (sym (gain_is c.args.step c.args.turns c.ranges.step c.requires))
    (gain_high _ (gain_most c.args.step c.args.turns c.ranges.step c.requires))
