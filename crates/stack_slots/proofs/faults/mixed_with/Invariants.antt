use Rattle.std.proofs.Common.{◌≡◌, drop}
use Rattle.std.specs.List.{find}
use Rattle.stack_slots.specs.CellRules.{is_mixed_later, mixed_at}
use Rattle.stack_slots.proofs.faults.mixed_with.Given as goal

abbrev pub invariant-loop-word : goal.invariant-loop-word
invariant-loop-word l =
    mixed_at (find (is_mixed_later l.firsts l.plain) (drop l.word-index l.words))
    ≡ mixed_at (find (is_mixed_later l.firsts l.plain) l.words)
