use Rattle.std.proofs.Common.{◌≡◌, ◌&&◌, drop}
use Rattle.std.specs.List.{list_any}
use Rattle.stack_slots.specs.declared.words.BodyWord.{BodyWord}
use Rattle.stack_slots.specs.CellRules.{use_one_cell, is_store}
use Rattle.stack_slots.proofs.uses.is_stored.Given as goal

abbrev pub invariant-loop-v : goal.invariant-loop-v
invariant-loop-v l =
    list_any (λ (v : BodyWord). is_store v.touch && use_one_cell v l.w) (drop l.v-index l.words)
    ≡ list_any (λ (v : BodyWord). is_store v.touch && use_one_cell v l.w) l.words
