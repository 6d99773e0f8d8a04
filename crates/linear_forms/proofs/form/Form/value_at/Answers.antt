use Rattle.std.proofs.Common.{w64, arith, sym, slice_index_or, pos, subst}
use Rattle.std.proofs.lemmas.Int.{to_z-of_z}
use Rattle.linear_forms.specs.Forms.{Alike}
use Rattle.linear_forms.proofs.Sums.{word_is}
use Rattle.linear_forms.proofs.Ranges.{fits_small, fits_constant}
use Rattle.linear_forms.proofs.Values.{sum_alike, alike_word, bits_alike}
use Rattle.linear_forms.proofs.form.Form.value_at.Goals as goal

pub returns : goal.returns
returns c =
    let b = c.self.invariant.bounded in
    let t = c.self.inside.turns in
    let f = to_z-of_z w64 (slice_index_or t 0 (pos 0)) (fits_small _ b.first) in
    let g = to_z-of_z w64 (slice_index_or t 1 (pos 0)) (fits_small _ b.second) in
    let h = to_z-of_z w64 (slice_index_or t 2 (pos 0)) (fits_small _ b.third) in
    let k = to_z-of_z w64 c.self.inside.constant (fits_constant _ b.constant) in
    let u = alike_word _ _ (rw f at c.product-first.ensures) in
    let v = alike_word _ _ (rw g at c.product-second.ensures) in
    let w = alike_word _ _ (rw h at c.product-third.ensures) in
    let x = alike_word _ _ (rw c.as_slice.ensures.seen at c.weigh-terms.ensures) in
    let y = rw k at c.cast_unsigned.ensures in
    let z = subst (λ m. Alike (pos m) c.self.inside.constant) (sym y) (bits_alike _ (fits_constant _ b.constant)) in
    rw (← c.self.view_is) (word_is _ _ (omega arith) (sum_alike _ _ _ _ (sum_alike _ _ _ _ z x) (sum_alike _ _ _ _ u (sum_alike _ _ _ _ v w))))
