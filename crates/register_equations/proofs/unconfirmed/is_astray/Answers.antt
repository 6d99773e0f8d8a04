use Rattle.std.proofs.Common.{◌∙◌, sym, refl, ap, Some, w64}
use Rattle.std.proofs.lemmas.Int.{to_z-of_z}
use Rattle.linear_forms.specs.Forms.{is_small}
use Rattle.linear_forms.proofs.Ranges.{fits_small}
use Rattle.loop_data.specs.declared.classes.Class.{Class}
use Rattle.register_equations.proofs.Coming.{small_class}
use Rattle.register_equations.proofs.unconfirmed.is_astray.Goals as goal

pub has_other-requires-clause-step : goal.has_other-requires-clause-step
has_other-requires-clause-step c =
    let z = c.in-Some-Induction.step in
    let s = small_class c.args.levels.now c.args.classes.now c.args.level.now c.requires.steps c.args.r z (sym (c.class_at.ensures c.args.level.now refl) ∙ c.in-Some-Induction.is ∙ ap (λ (x : Class). Some x) c.in-Some-Induction.field-0-is) in
    ap is_small (to_z-of_z w64 z (fits_small z s)) ∙ s
