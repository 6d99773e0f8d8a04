use Rattle.std.proofs.Common.{arith, w64, add-one, slice_index_or, ℤ, pos}
use Rattle.std.proofs.lemmas.Int.{to_z-of_z}
use Rattle.linear_forms.specs.declared.location.Loc.{Loc}
use Rattle.linear_forms.specs.declared.location.Loc.TheVariants.{Reg}
use Rattle.linear_forms.specs.Forms.{integers}
use Rattle.linear_forms.proofs.Nexts.{small_at}
use Rattle.linear_forms.proofs.Ranges.{fits_small}
use Rattle.linear_forms.proofs.Values.{number_at, nothing_weighed, weighed_more, alike_word}
use Rattle.linear_forms.proofs.form.weigh.Goals as goal

pub loop-term-init : goal.loop-term-init
loop-term-init c = nothing_weighed _ c.args.terms.now

pub offset_bounds-entry-number : goal.offset_bounds-entry-number
offset_bounds-entry-number c =
    let d : Loc × ℤ = (Reg 0, pos 0) in
    let h = number_at c.args.terms.now c.loop-term.term-index d c.requires.locations c.loop-term-test.true in
    let e = c.number.ensures in
    omega arith

pub bounds-entry-number : goal.bounds-entry-number
bounds-entry-number c =
    let d : Loc × ℤ = (Reg 0, pos 0) in
    let h = number_at c.args.terms.now c.loop-term.term-index d c.requires.locations c.loop-term-test.true in
    let e = c.number.ensures in
    omega arith

pub loop-term-preserved : goal.loop-term-preserved
loop-term-preserved c =
    let d : Loc × ℤ = (Reg 0, pos 0) in
    let y = to_z-of_z w64 (slice_index_or c.args.terms.now c.loop-term.term-index d).1 (fits_small _ (small_at c.args.terms.now c.loop-term.term-index d c.requires c.loop-term-test.true)) in
    let e = rw (y, c.number.ensures) at c.product-sum.ensures in
    rw add-one (weighed_more c.loop-term.sum c.product-sum.result (integers c.args.entry.now) c.args.terms.now c.loop-term.term-index d c.loop-term-test.true (alike_word _ _ e) c.loop-term.invariant)
