use Rattle.std.proofs.Common.{ℕ, ◌<◌}
use Rattle.register_equations.specs.Astray.{IsOtherAt}
use Rattle.register_equations.proofs.unconfirmed.has_other.Given as goal

abbrev pub invariant-loop-k : goal.invariant-loop-k
invariant-loop-k l = (j : ℕ) → j < l.k → ¬ IsOtherAt l.flow l.level.body l.points l.r l.form l.step j
