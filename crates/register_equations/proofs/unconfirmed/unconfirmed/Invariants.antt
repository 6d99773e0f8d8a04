use Rattle.std.proofs.Common.{ℕ, ◌≤◌, ◌<◌}
use Rattle.std.specs.List.{Any}
use Rattle.register_equations.specs.Astray.{IsAstray}
use Rattle.register_equations.proofs.unconfirmed.unconfirmed.Given as goal

abbrev pub invariant-loop-r : goal.invariant-loop-r
invariant-loop-r l = (q : ℕ) → 1 ≤ q → q < l.r → ¬ Any (IsAstray l.flow l.levels l.classes l.points q) l.levels
