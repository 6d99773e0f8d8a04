use Rattle.std.proofs.Common.{◌≡◌, None}
use Rattle.loop_data.specs.Equations.{entry_form}
use Rattle.loop_data.specs.Lookups.{cell_map}
use Rattle.register_equations.proofs.Setting.{AreSet}
use Rattle.register_equations.proofs.passes.set_entries.Given as goal

abbrev pub invariant-loop-r : goal.invariant-loop-r
invariant-loop-r l = AreSet (λ r o. o ≡ entry_form (record { instr = λ u. None; cells = cell_map l.cells }) r) l.r l.p l.initial.points l.points
