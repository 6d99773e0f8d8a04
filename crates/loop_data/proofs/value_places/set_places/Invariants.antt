use Rattle.std.proofs.Common.{◌≡◌, ℕ, ◌<◌, map, get_or}
use Rattle.loop_data.specs.declared.values.Values.{Values}
use Rattle.loop_data.specs.Lookups.{cell_map}
use Rattle.loop_data.specs.LoopCode.{code_of}
use Rattle.loop_data.specs.ValueStates.{IsPlace}
use Rattle.loop_data.proofs.value_places.set_places.Given as goal

abbrev pub invariant-loop-p : goal.invariant-loop-p
invariant-loop-p l = (map (λ (v : Values). v.at) l.points.items ≡ map (λ (v : Values). v.at) l.initial.points.items) × ((j : ℕ) → j < l.p-index → IsPlace (code_of l.graph (cell_map l.cells)) l.levels l.header l.flow l.points.items (get_or l.flow.order.items j 0))
