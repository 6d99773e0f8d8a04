use Rattle.std.proofs.Common.{◌∙◌, ap, sym, pos, slice_index_or, w64}
use Rattle.std.proofs.lemmas.Int.{to_z-of_z}
use Rattle.linear_forms.specs.Forms.{is_small, constant_fits, form_of, multiple, Scales}
use Rattle.linear_forms.proofs.Sums.{limited_if, exact-multiple}
use Rattle.linear_forms.proofs.Ranges.{fits_small, fits_constant, bits_product}
use Rattle.linear_forms.proofs.Limits.{small_within, constant_within, limited_multiple, no_constant, no_second_stride, no_third_stride}
use Rattle.linear_forms.proofs.form.Form.scale.Goals as goal

pub returns-in_err-second-clause-multiple : goal.returns-in_err-second-clause-multiple
returns-in_err-second-clause-multiple c =
    let b = c.self.invariant.bounded in
    let f = multiple c.args.by (form_of c.self.inside.constant c.self.inside.terms c.self.inside.turns) in
    let e = bits_product c.args.by (slice_index_or c.self.inside.turns 1 (pos 0)) c.ranges.by (fits_small _ b.second) in
    rw (← c.self.view_is) (c.from_residual-in_err-second.ensures ∙ no_second_stride f (sym (ap is_small e) ∙ c.in_err-second.ensures))

pub returns-in_err-third-clause-multiple : goal.returns-in_err-third-clause-multiple
returns-in_err-third-clause-multiple c =
    let b = c.self.invariant.bounded in
    let f = multiple c.args.by (form_of c.self.inside.constant c.self.inside.terms c.self.inside.turns) in
    let e = bits_product c.args.by (slice_index_or c.self.inside.turns 2 (pos 0)) c.ranges.by (fits_small _ b.third) in
    rw (← c.self.view_is) (c.from_residual-in_err-third.ensures ∙ no_third_stride f (sym (ap is_small e) ∙ c.in_err-third.ensures))

pub returns-in_err-constant-clause-multiple : goal.returns-in_err-constant-clause-multiple
returns-in_err-constant-clause-multiple c =
    let b = c.self.invariant.bounded in
    let f = multiple c.args.by (form_of c.self.inside.constant c.self.inside.terms c.self.inside.turns) in
    let e = bits_product c.args.by c.self.inside.constant c.ranges.by (fits_constant _ b.constant) in
    rw (← c.self.view_is) (c.from_residual-in_err-constant.ensures ∙ no_constant f (sym (ap constant_fits e) ∙ c.in_err-constant.ensures))

pub returns-clause-multiple : goal.returns-clause-multiple
returns-clause-multiple c =
    let b = c.self.invariant.bounded in
    let i = c.self.inside in
    let w = to_z-of_z w64 c.args.by c.ranges.by in
    let k = bits_product c.args.by i.constant c.ranges.by (fits_constant _ b.constant) in
    let x = bits_product c.args.by (slice_index_or i.turns 0 (pos 0)) c.ranges.by (fits_small _ b.first) in
    let y = bits_product c.args.by (slice_index_or i.turns 1 (pos 0)) c.ranges.by (fits_small _ b.second) in
    let z = bits_product c.args.by (slice_index_or i.turns 2 (pos 0)) c.ranges.by (fits_small _ b.third) in
    rw (← c.self.view_is) (limited_multiple c.args.by (form_of i.constant i.terms i.turns) _ _ _ _ _ (constant_within _ _ _ k c.in_ok-constant.ensures) (rw w at c.in_ok-terms.ensures)
    (small_within _ _ _ x c.in_ok-first.ensures) (small_within _ _ _ y c.in_ok-second.ensures) (small_within _ _ _ z c.in_ok-third.ensures))

pub returns-clause-value : goal.returns-clause-value
returns-clause-value c = limited_if (multiple c.args.by c.args.self.now) (Scales c.args.by c.args.self.now) (exact-multiple c.args.by c.args.self.now) _ (returns-clause-multiple c)
