use Rattle.std.proofs.Common.{◌≡◌, ℕ, ◌<◌, None, if◌then◌else◌, take}
use Rattle.loop_data.specs.Lookups.{cell_map, fact_in}
use Rattle.loop_data.specs.LoopCode.{code_of}
use Rattle.loop_data.specs.ValueStates.{lost_by}
use Rattle.loop_data.proofs.value_places.forget_loops.Given as goal

abbrev pub invariant-loop-level : goal.invariant-loop-level
invariant-loop-level l = (r : ℕ) → r < 48 → fact_in l.of r ≡ (if lost_by (code_of l.graph (cell_map l.cells)) (take l.level-index l.levels) l.v r then None else fact_in l.initial.of r)
