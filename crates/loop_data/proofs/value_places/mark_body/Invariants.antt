use Rattle.std.proofs.Common.{◌≡◌, ℕ, ◌<◌, ◌||◌, false, get_or, take}
use Rattle.loop_data.specs.Lookups.{cell_map}
use Rattle.loop_data.specs.LoopCode.{any_writes, code_of}
use Rattle.loop_data.proofs.value_places.mark_body.Given as goal

abbrev pub invariant-loop-u : goal.invariant-loop-u
invariant-loop-u l = (r : ℕ) → r < 48 → get_or l.flags r false ≡ (get_or l.initial.flags r false || any_writes (code_of l.graph (cell_map l.cells)) (take l.u-index l.body) r)
