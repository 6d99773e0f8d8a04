use Rattle.std.proofs.Common.{◌∙◌, ap, sym, subst, refl, None, w32}
use Rattle.std.proofs.lemmas.Int.{to_z-of_z}
use Rattle.loop_data.specs.FormRows.{form_shifted}
use Rattle.register_equations.specs.declared.rows.Short.TheVariants.{Other}
use Rattle.register_equations.specs.Rows.{multiple_by, IsShortResult}
use Rattle.register_equations.proofs.rows.short_shifted.Goals as goal

pub returns-in-None : goal.returns-in-None
returns-in-None c =
    let e = ap (form_shifted c.args.f.now) (sym (to_z-of_z w32 c.args.amount c.ranges.amount)) in
    subst (IsShortResult (Other None)) (sym (e ∙ c.power.ensures c.args.f.now ∙ ap (λ p. multiple_by p c.args.f.now) c.in-None.is)) refl
