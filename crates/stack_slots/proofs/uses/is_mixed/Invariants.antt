use Rattle.std.proofs.Common.{◌≡◌, ◌&&◌, drop}
use Rattle.std.specs.Prelude.{nat_lt}
use Rattle.std.specs.List.{list_any}
use Rattle.stack_slots.specs.declared.words.BodyWord.{BodyWord}
use Rattle.stack_slots.specs.CellRules.{both, are_mixed}
use Rattle.stack_slots.proofs.uses.is_mixed.Given as goal

abbrev pub invariant-loop-v : goal.invariant-loop-v
invariant-loop-v l =
    list_any (λ (v : BodyWord). nat_lt v.at l.w.at && both are_mixed v.touch l.w.touch) (drop l.v-index l.words)
    ≡ list_any (λ (v : BodyWord). nat_lt v.at l.w.at && both are_mixed v.touch l.w.touch) l.words
