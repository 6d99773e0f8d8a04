use Rattle.std.proofs.Common.{◌≡◌, ◌∙◌, ◌+ℤ◌, ap, get_or, pos, arith, w64}
use Rattle.std.proofs.lemmas.Int.{ints, to_z-of_z}
use Rattle.linear_forms.specs.Forms.{LinearForm}
use Rattle.linear_forms.proofs.Ranges.{fits_small}
use Rattle.register_equations.proofs.Strided.{turned_is}
use Rattle.register_equations.proofs.headers.with_first.Goals as goal

pub returns-then-turns-eq0 : goal.returns-then-turns-eq0
returns-then-turns-eq0 c e =
    let stepped : c.args.step ≡ c.args.form.first +ℤ c.args.step = omega (arith, ints) in
    turned_is c.args.form c.turned.result _ _ _ _ _ _ c.turned.ensures
    (to_z-of_z w64 c.args.step c.ranges.step ∙ stepped)
    (to_z-of_z w64 (get_or c.form.inside.turns 1 (pos 0)) (fits_small _ c.form.invariant.bounded.second) ∙ ap (λ (h : LinearForm). h.second) c.form.view_is)
    (to_z-of_z w64 (get_or c.form.inside.turns 2 (pos 0)) (fits_small _ c.form.invariant.bounded.third) ∙ ap (λ (h : LinearForm). h.third) c.form.view_is)
