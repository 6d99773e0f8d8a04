use Rattle.std.proofs.Common.{◌∙◌, w64, slice_index_or, pos}
use Rattle.std.proofs.lemmas.Int.{to_z-of_z}
use Rattle.distance_vectors.proofs.Sums.{fits_small, inner_fits, outer_fits, address_fits, address_is, address_range, same_sums}
use Rattle.distance_vectors.proofs.meeting.address_at.Goals as goal

pub overflow_add-result : goal.overflow_add-result
overflow_add-result c = inner_fits _ _ c.advance-inner.ensures.range c.advance-innermost.ensures.range

pub overflow_add-result-2 : goal.overflow_add-result-2
overflow_add-result-2 c =
    outer_fits _ _ _ c.advance-first.ensures.range c.advance-inner.ensures.range c.advance-innermost.ensures.range

pub overflow_add-result-3 : goal.overflow_add-result-3
overflow_add-result-3 c =
    address_fits c.form.inside.constant _ _ _ c.form.invariant.bounded.constant c.advance-first.ensures.range c.advance-inner.ensures.range
    c.advance-innermost.ensures.range

pub returns-clause-range : goal.returns-clause-range
returns-clause-range c =
    address_range c.form.inside.constant _ _ _ c.form.invariant.bounded.constant c.advance-first.ensures.range c.advance-inner.ensures.range
    c.advance-innermost.ensures.range

pub returns-clause-value : goal.returns-clause-value
returns-clause-value c =
    let b = c.form.invariant.bounded in
    let t = c.form.inside.turns in
    let f = to_z-of_z w64 (slice_index_or t 0 (pos 0)) (fits_small _ b.first) in
    let g = to_z-of_z w64 (slice_index_or t 1 (pos 0)) (fits_small _ b.second) in
    let h = to_z-of_z w64 (slice_index_or t 2 (pos 0)) (fits_small _ b.third) in
    let r = to_z-of_z w64 c.args.root c.ranges.root in
    let s = to_z-of_z w64 c.args.second c.ranges.second in
    let u = to_z-of_z w64 c.args.third c.ranges.third in
    let x = rw (f, r) at c.advance-first.ensures.value in
    let y = rw (g, s) at c.advance-inner.ensures.value in
    let z = rw (h, u) at c.advance-innermost.ensures.value in
    rw (← c.form.view_is)
    (address_is c.form.inside.constant _ _ _ b.constant c.advance-first.ensures.range c.advance-inner.ensures.range
    c.advance-innermost.ensures.range ∙ same_sums _ _ _ _ _ _ _ x y z)
