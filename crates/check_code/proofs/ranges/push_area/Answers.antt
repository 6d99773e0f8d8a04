use Rattle.std.proofs.Common.{arith, ◌≡◌, ◌+◌, ◌*◌, pos}
use Rattle.std.proofs.lemmas.Int.{ints}
use Rattle.std.proofs.lemmas.Bool.Decides.{nat_tests}
use Rattle.std.specs.Int.{w64}
use mir.Val.{to_z}
use Rattle.check_code.proofs.Appends.{area_words, number_as}
use Rattle.check_code.proofs.ranges.push_area.Goals as goal

pub returns : goal.returns
returns c =
    let a = c.requires.bounds.0 in
    let b = c.requires.bounds.1 in
    let low : to_z w64 c.args.low ≡ pos c.args.low = grind (arith, ints, nat_tests, a) in
    let end : to_z w64 c.args.end ≡ pos c.args.end = grind (arith, ints, nat_tests, b) in
    area_words _ _ _ _ _ c.new.result c.new-4.result c.new-2.result c.new-3.result c.new-5.result c.new-6.result c.args.low c.args.end (6 * c.args.left + 1) _ (omega (arith, ints)) c.new.ensures c.new-4.ensures c.new-2.ensures c.new-3.ensures c.new-5.ensures c.new-6.ensures
    (number_as _ _ _ _ _ c.in_ok-push_number.ensures low) c.in_ok-push.ensures (number_as _ _ _ _ _ c.in_ok-push_number-2.ensures end) c.in_ok-push-2.ensures
