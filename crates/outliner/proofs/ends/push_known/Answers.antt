use Rattle.std.proofs.Common.{rules}
use Rattle.std.specs.Int.{w32, w64}
use Rattle.std.specs.Int.RustNames.{FitsSigned}
use Rattle.std.proofs.lemmas.Int.{to_z-of_z}
use Rattle.outliner.proofs.Appends.{known_words}
use Rattle.outliner.proofs.ends.push_known.Goals as goal

pub returns : goal.returns
returns c =
    let f : FitsSigned w64 c.args.v = search rules in
    let k : FitsSigned w32 c.low_of.result = search rules in
    let lo = simp to_z-of_z at c.low_of.ensures.value in
    let x = simp to_z-of_z at c.in_ok-store.ensures in
    let y = simp to_z-of_z at c.in_ok-push_upper.ensures in
    known_words _ _ _ _ _ _ _ _ c.args.k c.args.op c.args.v c.low_of.result lo c.in_ok-put.ensures c.in_ok-put-2.ensures c.in_ok-get.ensures y x c.in_ok-get-2.ensures c.in_ok-get-3.ensures
