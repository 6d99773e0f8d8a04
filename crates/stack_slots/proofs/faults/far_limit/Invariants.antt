use Rattle.std.proofs.Common.{◌≡◌, drop}
use Rattle.std.specs.List.{find}
use Rattle.stack_slots.specs.CellRules.{is_far_auipc, limit_at}
use Rattle.stack_slots.proofs.faults.far_limit.Given as goal

abbrev pub invariant-loop-word : goal.invariant-loop-word
invariant-loop-word l = limit_at (find is_far_auipc (drop l.word-index l.words)) ≡ limit_at (find is_far_auipc l.words)
