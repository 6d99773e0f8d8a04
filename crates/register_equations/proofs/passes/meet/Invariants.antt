use Rattle.register_equations.specs.States.{IsLeft}
use Rattle.register_equations.proofs.Setting.{AreSet}
use Rattle.register_equations.proofs.passes.meet.Given as goal

abbrev pub invariant-loop-r : goal.invariant-loop-r
invariant-loop-r l = AreSet (IsLeft l.inner l.flow l.initial.points l.sources l.p l.v) l.r l.p l.initial.points l.points
