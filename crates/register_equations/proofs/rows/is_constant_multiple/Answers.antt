use Rattle.std.proofs.Common.{◌∙◌, sym, refl, w64}
use Rattle.std.proofs.lemmas.Int.{to_z-of_z}
use Rattle.linear_forms.specs.Forms.{multiple}
use Rattle.loop_data.specs.FormRows.{is_pure}
use Rattle.register_equations.proofs.ShortForms.{pure_short, multiple_rest, no_constant}
use Rattle.register_equations.proofs.rows.is_constant_multiple.Goals as goal

pub returns-in-Some : goal.returns-in-Some
returns-in-Some c =
    let f = c.args.f.now in
    let m = rw (to_z-of_z w64 c.args.by c.ranges.by) at c.scale.ensures.multiple in
    let r = multiple_rest c.args.by f c.floated.result c.scale.result c.floated.ensures m in
    c.is_constant.ensures ∙ sym (pure_short (multiple c.args.by f) c.in-Some.form (is_pure c.in-Some.form) (sym c.in-Some.is ∙ r) refl)

pub returns-in-None : goal.returns-in-None
returns-in-None c =
    let f = c.args.f.now in
    let m = rw (to_z-of_z w64 c.args.by c.ranges.by) at c.scale.ensures.multiple in
    let r = multiple_rest c.args.by f c.floated.result c.scale.result c.floated.ensures m in
    sym (no_constant (multiple c.args.by f) (sym c.in-None.is ∙ r))
