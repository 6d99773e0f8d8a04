use Rattle.std.proofs.Common.{◌≡◌, ℕ, ◌<◌, None, length}
use Rattle.loop_data.specs.FactPass.{header_fact}
use Rattle.loop_data.specs.Lookups.{cell_map, fact_in}
use Rattle.loop_data.proofs.value_places.set_header.Given as goal

abbrev pub invariant-loop-r : goal.invariant-loop-r
invariant-loop-r l = (length l.of ≡ 48) × ((q : ℕ) → q < l.r → fact_in l.of q ≡ header_fact (record { instr = λ u. None; cells = cell_map l.cells }) q)
