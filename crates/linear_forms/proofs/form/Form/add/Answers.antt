use Rattle.std.proofs.Common.{pos, slice_index_or}
use Rattle.linear_forms.specs.Forms.{merged, AddsUp, sum_of}
use Rattle.linear_forms.proofs.Sums.{limited_if, exact-sum}
use Rattle.linear_forms.proofs.Limits.{are_those, small_sum, constant_sum}
use Rattle.linear_forms.proofs.form.Form.add.Goals as goal

pub returns-clause-sum : goal.returns-clause-sum
returns-clause-sum c =
    let t = are_those c.in_ok-terms.terms (merged c.self.inside.terms c.other.inside.terms) c.in_ok-terms.ensures in
    let b = c.self.invariant.bounded in
    let d = c.other.invariant.bounded in
    let x = c.self.inside.turns in
    let y = c.other.inside.turns in
    let k = constant_sum c.self.inside.constant c.other.inside.constant b.constant d.constant in
    let f = small_sum (slice_index_or x 0 (pos 0)) (slice_index_or y 0 (pos 0)) b.first d.first in
    let g = small_sum (slice_index_or x 1 (pos 0)) (slice_index_or y 1 (pos 0)) b.second d.second in
    let h = small_sum (slice_index_or x 2 (pos 0)) (slice_index_or y 2 (pos 0)) b.third d.third in
    rw (← c.self.view_is, ← c.other.view_is) (rw (k, t, f, g, h) at c.limit.ensures)

pub returns-clause-value : goal.returns-clause-value
returns-clause-value c = limited_if (sum_of c.args.self.now c.args.other.now) (AddsUp c.args.self.now c.args.other.now) (exact-sum c.args.self.now c.args.other.now) _ (returns-clause-sum c)
