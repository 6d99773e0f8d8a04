use Rattle.std.proofs.Common.{ap, ◌∙◌}
use Rattle.std.specs.Prelude.{find}
use Rattle.stack_slots.specs.CellRules.{is_mixed_later, mixed_at}
use Rattle.stack_slots.proofs.MixedPairs.{mixed_is}
use Rattle.stack_slots.proofs.faults.mixed_cell.Goals as goal

pub returns : goal.returns
returns c =
    let words = c.args.words.now in
    let plain = c.as_slice.ensures.value ∙ c.in_ok-plain.ensures in
    c.mixed_with.ensures
    ∙ ap (λ fs. mixed_at (find (is_mixed_later fs c.as_slice.result.now) words)) c.requires
    ∙ ap (λ ps. mixed_at (find (is_mixed_later (Rattle.stack_slots.specs.CellRules.first_uses words) ps) words)) plain
    ∙ ap (λ test. mixed_at (find test words)) (mixed_is words)
