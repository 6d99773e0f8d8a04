use Rattle.std.proofs.Common.{◌≡◌, ℕ, ◌<◌, get_or}
use Rattle.loop_data.specs.declared.shape.Level.{Level}
use Rattle.loop_data.specs.Nests.{Holds}
use Rattle.loop_data.proofs.nesting.around.Given as goal

abbrev pub invariant-loop-i : goal.invariant-loop-i
invariant-loop-i l = (j : ℕ) (d : Level) → j < l.i → (get_or l.levels j d).depth ≡ l.depth → ¬ Holds (get_or l.levels j d) l.u
