use Rattle.std.proofs.Common.{◌∙◌, ap, ◌*◌, ◌%◌, ◌^◌, w64, of_z}
use Rattle.std.proofs.lemmas.Int.{to_z-of_z}
use Rattle.linear_forms.proofs.Values.{product_word}
use Rattle.linear_forms.proofs.form.product.Goals as goal

pub returns : goal.returns
returns c =
    let e = c.cast_unsigned.ensures ∙ ap (of_z w64) (to_z-of_z w64 c.args.by c.ranges.by) in
    ap (λ x. x * c.args.word % 2 ^ 64) e ∙ product_word c.args.by c.args.word c.ranges.by
