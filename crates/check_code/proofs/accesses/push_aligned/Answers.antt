use Rattle.std.proofs.Common.{rules}
use Rattle.std.specs.Int.{w32}
use Rattle.std.specs.Int.RustNames.{FitsSigned}
use Rattle.std.proofs.lemmas.Int.{to_z-of_z}
use Rattle.stub_laws.proofs.Appends.{joined}
use Rattle.check_code.proofs.Joins.{as_immediate}
use Rattle.check_code.proofs.accesses.push_aligned.Goals as goal

pub returns : goal.returns
returns c =
    let f : FitsSigned w32 c.mask_of.result = search rules in
    let x = simp to_z-of_z at c.in_ok-push_immediate.ensures in
    joined _ _ _ _ _ (as_immediate _ _ _ _ _ _ _ c.mask_of.ensures.value x) c.in_ok-push_zero.ensures
