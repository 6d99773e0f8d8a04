use Rattle.std.proofs.Common.{pos, negsuc, slice_index_or}
use Rattle.linear_forms.specs.Forms.{merged, scaled_terms, Differs, difference}
use Rattle.linear_forms.proofs.Sums.{limited_if, exact-difference}
use Rattle.linear_forms.proofs.Limits.{are_those, small_difference, constant_difference}
use Rattle.linear_forms.proofs.form.Form.sub.Goals as goal

pub returns-clause-difference : goal.returns-clause-difference
returns-clause-difference c =
    let t = are_those c.in_ok-terms.terms (merged c.self.inside.terms (scaled_terms (negsuc 0) c.other.inside.terms)) c.in_ok-terms.ensures in
    let b = c.self.invariant.bounded in
    let d = c.other.invariant.bounded in
    let x = c.self.inside.turns in
    let y = c.other.inside.turns in
    let k = constant_difference c.self.inside.constant c.other.inside.constant b.constant d.constant in
    let f = small_difference (slice_index_or x 0 (pos 0)) (slice_index_or y 0 (pos 0)) b.first d.first in
    let g = small_difference (slice_index_or x 1 (pos 0)) (slice_index_or y 1 (pos 0)) b.second d.second in
    let h = small_difference (slice_index_or x 2 (pos 0)) (slice_index_or y 2 (pos 0)) b.third d.third in
    rw (← c.self.view_is, ← c.other.view_is) (rw (k, t, f, g, h) at c.limit.ensures)

pub returns-clause-value : goal.returns-clause-value
returns-clause-value c = limited_if (difference c.args.self.now c.args.other.now) (Differs c.args.self.now c.args.other.now) (exact-difference c.args.self.now c.args.other.now) _ (returns-clause-difference c)
