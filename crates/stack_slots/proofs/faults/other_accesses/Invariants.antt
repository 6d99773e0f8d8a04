use Rattle.std.proofs.Common.{◌≡◌, ◌++◌, drop}
use Rattle.std.specs.List.{filter}
use Rattle.stack_slots.specs.CellRules.{is_other_access}
use Rattle.stack_slots.proofs.faults.other_accesses.Given as goal

abbrev pub invariant-loop-word : goal.invariant-loop-word
invariant-loop-word l =
    l.found.items ++ filter is_other_access (drop l.word-index l.words) ≡ filter is_other_access l.words
