use Rattle.std.proofs.Common.{get_or, pos}
use Rattle.std.specs.Int.{w64}
use Rattle.std.specs.Int.RustNames.{FitsSigned}
use Rattle.std.proofs.lemmas.Int.{to_z-of_z}
use Rattle.check_code.proofs.Appends.{low_words}
use Rattle.check_code.proofs.Values.{short_fits}
use Rattle.check_numbers.proofs.Sums.{small_short}
use Rattle.check_code.proofs.macros.push_low.Goals as goal

pub returns : goal.returns
returns c =
    let b = c.f.invariant.bounded in
    let f : FitsSigned w64 (get_or c.f.inside.turns 0 (pos 0)) = short_fits _ (small_short _ b.first) in
    let g : FitsSigned w64 (get_or c.f.inside.turns 1 (pos 0)) = short_fits _ (small_short _ b.second) in
    let h : FitsSigned w64 (get_or c.f.inside.turns 2 (pos 0)) = short_fits _ (small_short _ b.third) in
    let x = simp to_z-of_z at c.in_ok-push_fall.ensures in
    let y = simp to_z-of_z at c.in_ok-push_fall-2.ensures in
    let z = simp to_z-of_z at c.in_ok-push_fall-3.ensures in
    low_words _ _ _ _ _ c.args.r c.args.f.now c.f.inside.constant c.f.inside.terms c.f.inside.turns c.args.slots c.f.view_is c.in_ok-push_form.ensures x y z
