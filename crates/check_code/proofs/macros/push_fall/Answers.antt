use Rattle.std.proofs.Common.{rules}
use Rattle.std.specs.Int.{w64}
use Rattle.std.specs.Int.RustNames.{FitsSigned}
use Rattle.std.proofs.lemmas.Int.{to_z-of_z}
use Rattle.check_code.proofs.Appends.{fall_none}
use Rattle.check_code.proofs.macros.push_fall.Goals as goal

pub returns : goal.returns
returns c =
    let f : FitsSigned w64 c.args.by = search rules in
    let h = simp to_z-of_z at c.if-by-lt0.false in
    fall_none _ c.args.r c.args.by c.args.slot h
