use Rattle.std.proofs.Common.{rules}
use Rattle.std.specs.Int.{w32, w64}
use Rattle.std.specs.Int.RustNames.{FitsSigned}
use Rattle.std.proofs.lemmas.Int.{to_z-of_z}
use Rattle.stub_laws.proofs.Appends.{joined_as}
use Rattle.check_code.proofs.Appends.{two_words}
use Rattle.check_code.proofs.macros.push_number.Goals as goal

pub returns : goal.returns
returns c =
    let f : FitsSigned w64 c.args.v = search rules in
    let g : FitsSigned w32 c.high_of.result = search rules in
    let k : FitsSigned w32 c.low_of.result = search rules in
    let hi = simp to_z-of_z at c.high_of.ensures.value in
    let lo = simp to_z-of_z at c.low_of.ensures.value in
    let x = simp to_z-of_z at c.in_ok-push.ensures in
    let y = simp to_z-of_z at c.in_ok-push-2.ensures in
    joined_as _ _ _ _ _ _ x y (two_words c.args.r c.args.v c.high_of.result c.low_of.result hi lo)
