use Rattle.std.proofs.Common.{◌≡◌, take}
use Rattle.std.specs.List.{filter}
use Rattle.stack_slots.specs.CellRules.{is_first_use}
use Rattle.stack_slots.proofs.uses.first_uses.Given as goal

abbrev pub invariant-loop-w : goal.invariant-loop-w
invariant-loop-w l = l.firsts.items ≡ take 17 (filter (is_first_use l.words) (take l.w-index l.words))
