use Rattle.std.proofs.Common.{rules, arith}
use Rattle.std.specs.Int.{w64}
use Rattle.std.specs.Int.RustNames.{FitsSigned}
use Rattle.std.proofs.lemmas.Int.{to_z-of_z}
use Rattle.stub_laws.proofs.Appends.{joined}
use Rattle.check_code.proofs.TripAppends.{size_number}
use Rattle.check_code.proofs.turns.push_count.Goals as goal

pub returns : goal.returns
returns c =
    let f : FitsSigned w64 c.cast_signed.result = search rules in
    let y = simp to_z-of_z at c.in_ok-number.ensures in
    joined _ _ _ _ _ c.in_ok-push_gap.ensures
    (joined _ _ _ _ _ c.in_ok-push_less_one.ensures
    (joined _ _ _ _ _ (size_number _ _ 28 c.args.size c.cast_signed.result c.cast_signed.ensures (omega arith) y)
    (joined _ _ _ _ _ c.in_ok-push_operation.ensures
    (joined _ _ _ _ _ c.in_ok-push_immediate.ensures (joined _ _ _ _ _ c.in_ok-push_operation-2.ensures c.in_ok-push_end.ensures)))))
