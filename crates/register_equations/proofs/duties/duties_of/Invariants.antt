use Rattle.register_equations.specs.States.{AreDutiesTo}
use Rattle.register_equations.proofs.duties.duties_of.Given as goal

abbrev pub invariant-loop-i : goal.invariant-loop-i
invariant-loop-i l = AreDutiesTo l.flow l.levels l.points l.i l.duties.items
