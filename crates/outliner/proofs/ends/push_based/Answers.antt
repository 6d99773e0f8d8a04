use Rattle.std.proofs.Common.{rules}
use Rattle.std.specs.Int.{w64}
use Rattle.std.specs.Int.RustNames.{FitsSigned}
use Rattle.outliner.proofs.Appends.{based_words}
use Rattle.outliner.proofs.ends.push_based.Goals as goal

pub returns : goal.returns
returns c =
    let f : FitsSigned w64 c.args.offset = search rules in
    based_words _ _ _ _ _ c.args.k c.args.r _ c.args.op _ c.args.offset c.carrier-s.ensures.value (search rules) c.in_ok-put.ensures c.in_ok-get.ensures c.in_ok-store.ensures c.in_ok-get-2.ensures
