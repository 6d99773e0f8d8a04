use Rattle.std.proofs.Common.{◌≢◌, ℕ, ◌<◌, get_or}
use Rattle.loop_data.specs.declared.shape.Level.{Level}
use Rattle.register_equations.proofs.passes.level_at.Given as goal

abbrev pub invariant-loop-l : goal.invariant-loop-l
invariant-loop-l l = (j : ℕ) (d : Level) → j < l.l-index → (get_or l.inner j d).header ≢ l.v
