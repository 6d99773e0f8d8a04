use Rattle.std.proofs.Common.{◌≡◌, true, drop}
use Rattle.std.specs.List.{list_any}
use Rattle.stack_slots.specs.declared.words.BodyWord.{BodyWord}
use Rattle.stack_slots.specs.CellRules.{use_one_cell}
use Rattle.stack_slots.proofs.list.number_of.Given as goal

abbrev pub invariant-loop-i : goal.invariant-loop-i
invariant-loop-i l = list_any (λ (f : BodyWord). use_one_cell f l.w) (drop l.i l.firsts) ≡ true
