use Rattle.std.proofs.Common.{ℕ, ap, sym, ◌∙◌}
use Rattle.loop_data.proofs.FlowWords.{same_place}
use Rattle.induction.specs.Masks.{bit_after}
use Rattle.induction.proofs.words.mask_past.Goals as goal

pub returns-in-Some : goal.returns-in-Some
returns-in-Some c p l e r lr =
    let f = c.in-Some.ensures.found in
    let same = same_place c.args.body.now c.requires.ordered c.in-Some.p p f.0 l (f.1 ∙ sym e) in
    c.after.ensures r lr ∙ ap (λ (k : ℕ). bit_after c.args.flow.now c.args.masks.now k r) same
