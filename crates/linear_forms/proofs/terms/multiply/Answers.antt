use Rattle.std.proofs.Common.{◌≡◌, false, subst, w64, add-one, slice_index_or, ℤ, pos}
use Rattle.std.proofs.lemmas.Int.{to_z-of_z}
use Rattle.linear_forms.specs.declared.location.Loc.{Loc}
use Rattle.linear_forms.specs.declared.location.Loc.TheVariants.{Reg}
use Rattle.linear_forms.specs.Forms.{are_limited, scaled_terms}
use Rattle.linear_forms.specs.Locations.{terms_of}
use Rattle.linear_forms.proofs.Nexts.{small_at}
use Rattle.linear_forms.proofs.Ranges.{fits_small}
use Rattle.linear_forms.proofs.Built.{location_at, scaled_built, scaled_whole}
use Rattle.linear_forms.proofs.terms.multiply.Goals as goal

pub push_multiple-requires : goal.push_multiple-requires
push_multiple-requires c = location_at _ _ _ c.requires.locations c.loop-term-test.true

pub returns-then-not-push_multiple : goal.returns-then-not-push_multiple
returns-then-not-push_multiple c =
    let d : Loc × ℤ = (Reg 0, pos 0) in
    let z = to_z-of_z w64 c.args.by c.ranges.by in
    let y = to_z-of_z w64 (slice_index_or c.args.terms.now c.loop-term.term-index d).1 (fits_small _ (small_at c.args.terms.now c.loop-term.term-index d c.requires c.loop-term-test.true)) in
    let b = rw y at (c.push_multiple.ensures.limits c.if-not-push_multiple.true) in
    subst (λ w. are_limited (scaled_terms w (terms_of c.args.terms.now)) ≡ false) z (b _ _ (scaled_built _ _ _ _ d _ c.loop-term-test.true c.loop-term.invariant))

pub loop-term-preserved : goal.loop-term-preserved
loop-term-preserved c =
    let d : Loc × ℤ = (Reg 0, pos 0) in
    let y = to_z-of_z w64 (slice_index_or c.args.terms.now c.loop-term.term-index d).1 (fits_small _ (small_at c.args.terms.now c.loop-term.term-index d c.requires c.loop-term-test.true)) in
    let b = rw y at (c.push_multiple.ensures.built c.if-not-push_multiple.false) in
    rw add-one (b _ _ (scaled_built _ _ _ _ d _ c.loop-term-test.true c.loop-term.invariant))

pub returns : goal.returns
returns c =
    let z = to_z-of_z w64 c.args.by c.ranges.by in
    rw z at (scaled_whole _ _ _ _ c.loop-term-test.false c.loop-term.invariant c.requires)
