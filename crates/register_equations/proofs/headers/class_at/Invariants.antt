use Rattle.std.proofs.Common.{◌≡◌, ◌∷◌, drop}
use Rattle.loop_data.specs.declared.shape.Level.{Level}
use Rattle.loop_data.specs.Lookups.{classes_of}
use Rattle.register_equations.proofs.headers.class_at.Given as goal

abbrev pub invariant-loop-i : goal.invariant-loop-i
invariant-loop-i l = (m : Level) → m.header ≡ l.header → classes_of l.levels (l.classes.root ∷ l.classes.inner) m ≡ classes_of (drop l.i l.levels) (drop l.i (l.classes.root ∷ l.classes.inner)) m
