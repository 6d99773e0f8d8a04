use Rattle.std.proofs.Common.{ℕ, ◌<◌, get_or}
use Rattle.induction.specs.declared.writers.Writers.TheVariants.{Nowhere}
use Rattle.induction.specs.Writers.{AreWriters}
use Rattle.induction.proofs.writers.writers_of.Given as goal

abbrev pub invariant-loop-p : goal.invariant-loop-p
invariant-loop-p l = (r : ℕ) → r < 48 → AreWriters l.flow l.p r (get_or l.writers r Nowhere)
