use Rattle.std.proofs.Common.{◌≡◌, ◌++◌, drop}
use Rattle.std.specs.List.{filter}
use Rattle.stack_slots.specs.declared.words.BodyWord.{BodyWord}
use Rattle.stack_slots.specs.CellRules.{is_plain}
use Rattle.stack_slots.proofs.faults.plain_accesses.Given as goal

abbrev pub invariant-loop-word : goal.invariant-loop-word
invariant-loop-word l =
    l.found.items ++ filter (λ (w : BodyWord). is_plain w.touch) (drop l.word-index l.words)
    ≡ filter (λ (w : BodyWord). is_plain w.touch) l.words
