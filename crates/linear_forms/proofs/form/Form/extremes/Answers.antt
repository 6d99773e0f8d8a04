use Rattle.std.proofs.Common.{◌≡◌, w64, arith, refl, slice_index_or, ℤ, pos}
use Rattle.std.proofs.lemmas.Int.{ints, to_z-of_z}
use Rattle.linear_forms.proofs.Ranges.{fits_small}
use Rattle.linear_forms.proofs.form.Form.extremes.Goals as goal

pairs : (a b x y : ℤ) → a ≡ x → b ≡ y → ◌≡◌ {A = ℤ × ℤ} (a, b) (x, y)
pairs a b x y e f = rw (e, f) refl

pub returns : goal.returns
returns c =
    let b = c.self.invariant.bounded in
    let t = c.self.inside.turns in
    let f = to_z-of_z w64 (slice_index_or t 0 (pos 0)) (fits_small _ b.first) in
    let g = to_z-of_z w64 (slice_index_or t 1 (pos 0)) (fits_small _ b.second) in
    let h = to_z-of_z w64 (slice_index_or t 2 (pos 0)) (fits_small _ b.third) in
    let u = rw f at c.fall.ensures.value in
    let v = rw g at c.fall-2.ensures.value in
    let w = rw h at c.fall-3.ensures.value in
    let x = rw f at c.rise.ensures.value in
    let y = rw g at c.rise-2.ensures.value in
    let z = rw h at c.rise-3.ensures.value in
    rw (← c.self.view_is) (pairs _ _ _ _ (omega (arith, ints)) (omega (arith, ints)))
