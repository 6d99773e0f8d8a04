use Rattle.std.proofs.Common.{◌∙◌, ap, ◌*◌, ◌%◌, ◌^◌, ◌*ℤ◌, w64, of_z}
use Rattle.std.proofs.lemmas.Int.{to_z-of_z}
use Rattle.linear_forms.specs.Forms.{LinearForm, word_of}
use Rattle.linear_forms.proofs.Ranges.{fits_constant}
use Rattle.register_equations.proofs.ShortForms.{product_bits}
use Rattle.register_equations.proofs.rows.multiple_word.Goals as goal

pub returns : goal.returns
returns c =
    let k = fits_constant c.f.inside.constant c.f.invariant.bounded.constant in
    let a = c.cast_unsigned.ensures ∙ ap (of_z w64) (to_z-of_z w64 c.args.by c.ranges.by) in
    let b = c.cast_unsigned-constant.ensures ∙ ap (of_z w64) (to_z-of_z w64 c.f.inside.constant k) in
    ap (λ x. x * c.cast_unsigned-constant.result % 2 ^ 64) a ∙ ap (λ y. of_z w64 c.args.by * y % 2 ^ 64) b ∙ product_bits c.args.by c.f.inside.constant c.ranges.by k
    ∙ ap (λ z. word_of (c.args.by *ℤ z)) (ap (λ (h : LinearForm). h.constant) c.f.view_is)
