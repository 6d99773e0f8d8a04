use Rattle.std.proofs.Common.{rules}
use Rattle.std.specs.Int.{w64}
use Rattle.std.specs.Int.RustNames.{FitsSigned}
use Rattle.std.proofs.lemmas.Int.{to_z-of_z}
use Rattle.stub_laws.proofs.Appends.{joined}
use Rattle.outliner.proofs.turns.push_advance.Goals as goal

pub returns : goal.returns
returns c =
    let f : FitsSigned w64 c.args.step = search rules in
    let y = simp to_z-of_z at c.in_ok-number.ensures in
    joined _ _ _ _ _ c.in_ok-push_taken.ensures (joined _ _ _ _ _ y (joined _ _ _ _ _ c.in_ok-alu.ensures (joined _ _ _ _ _
    c.in_ok-alu-2.ensures c.in_ok-push_given.ensures)))
