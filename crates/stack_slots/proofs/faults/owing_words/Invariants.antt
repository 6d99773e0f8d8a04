use Rattle.std.proofs.Common.{◌≡◌, ◌++◌, drop}
use Rattle.std.specs.List.{filter}
use Rattle.stack_slots.specs.CellRules.{may_owe}
use Rattle.stack_slots.proofs.faults.owing_words.Given as goal

abbrev pub invariant-loop-word : goal.invariant-loop-word
invariant-loop-word l = l.found.items ++ filter may_owe (drop l.word-index l.words) ≡ filter may_owe l.words
