use Rattle.std.proofs.Common.{◌≡◌}
use Rattle.loop_data.specs.LoopCode.{code_of}
use Rattle.loop_data.specs.Lookups.{cell_map}
use Rattle.loop_data.specs.Points.{form_in}
use Rattle.register_equations.specs.States.{IsHeaderForm}
use Rattle.register_equations.proofs.Setting.{AreSet}
use Rattle.register_equations.proofs.passes.set_headed.Given as goal

abbrev pub invariant-loop-r : goal.invariant-loop-r
invariant-loop-r l = AreSet (λ r o. IsHeaderForm (code_of l.graph (cell_map l.cells)) l.levels l.classes l.level (λ x. x ≡ form_in l.initial.points l.p r) r o) l.r l.p l.initial.points l.points
