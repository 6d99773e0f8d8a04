use Rattle.std.proofs.Common.{◌≡◌, drop}
use Rattle.std.specs.List.{list_any}
use Rattle.stack_slots.specs.declared.words.BodyWord.{BodyWord}
use Rattle.stack_slots.specs.CellRules.{use_one_cell}
use Rattle.stack_slots.proofs.uses.is_among.Given as goal

abbrev pub invariant-loop-f : goal.invariant-loop-f
invariant-loop-f l =
    list_any (λ (f : BodyWord). use_one_cell f l.w) (drop l.f-index l.firsts)
    ≡ list_any (λ (f : BodyWord). use_one_cell f l.w) l.firsts
