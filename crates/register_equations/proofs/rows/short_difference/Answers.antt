use Rattle.std.proofs.Common.{◌∙◌, ap, ◌+ℤ◌, ◌*ℤ◌, negsuc}
use Rattle.linear_forms.specs.Forms.{LinearForm}
use Rattle.linear_forms.proofs.Limits.{constant_difference}
use Rattle.register_equations.proofs.ShortForms.{short_difference_is}
use Rattle.register_equations.proofs.rows.short_difference.Goals as goal

pub returns-in-Some-Some : goal.returns-in-Some-Some
returns-in-Some-Some c =
    let k = constant_difference c.f.inside.constant c.g.inside.constant c.f.invariant.bounded.constant c.g.invariant.bounded.constant in
    let x = ap (λ (h : LinearForm). h.constant) c.f.view_is in
    let y = ap (λ (h : LinearForm). h.constant) c.g.view_is in
    short_difference_is c.shortened.result c.in-Some-Some.f c.in-Some-Some.g c.floated.result c.floated-in-Some-Some.result c.sub.result _ c.args.f.now c.args.g.now
    c.floated.ensures c.floated-in-Some-Some.ensures c.sub.ensures.difference (k ∙ ap (λ z. z +ℤ negsuc 0 *ℤ c.g.inside.constant) x ∙ ap (λ z. c.in-Some-Some.f.constant +ℤ negsuc 0 *ℤ z) y) c.shortened.ensures c.in-Some-Some.is-0 c.in-Some-Some.is-1
