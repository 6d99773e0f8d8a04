use Rattle.std.proofs.Common.{◌∙◌, sym, subst, Option, w64, to_z, of_z}
use Rattle.std.proofs.lemmas.Int.{to_z-of_z}
use Rattle.linear_forms.specs.Forms.{LinearForm}
use Rattle.loop_data.specs.FormRows.{form_multiple}
use Rattle.register_equations.specs.declared.rows.Short.TheVariants.{Constant}
use Rattle.register_equations.specs.Rows.{IsShortResult}
use Rattle.register_equations.proofs.ShortForms.{short_by}
use Rattle.register_equations.proofs.rows.short_multiple.Goals as goal

pub returns-then-is_constant_multiple : goal.returns-then-is_constant_multiple
returns-then-is_constant_multiple c =
    let p = rw (to_z-of_z w64 c.args.by c.ranges.by) at c.is_constant_multiple.ensures in
    let q = rw (to_z-of_z w64 c.args.by c.ranges.by) at c.multiple_word.ensures in
    subst (λ (o : Option LinearForm). IsShortResult (Constant (to_z w64 (of_z w64 c.low_half.result))) (form_multiple c.args.by o)) (sym c.in-Some.is)
    (sym p ∙ c.if-is_constant_multiple.true, short_by c.low_half.result _ c.multiple_word.result q c.low_half.ensures)
