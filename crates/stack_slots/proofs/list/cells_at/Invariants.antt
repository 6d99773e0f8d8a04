use Rattle.std.proofs.Common.{◌≡◌, ◌≤◌, ◌++◌, drop, length}
use Rattle.std.specs.List.{filter_map}
use Rattle.stack_slots.specs.CellRules.{cell_of}
use Rattle.stack_slots.proofs.list.cells_at.Given as goal

abbrev pub invariant-loop-first : goal.invariant-loop-first
invariant-loop-first l =
    (length l.list.items ≤ l.first-index)
    × (l.list.items ++ filter_map (cell_of l.words) (drop l.first-index l.firsts) ≡ filter_map (cell_of l.words) l.firsts)
