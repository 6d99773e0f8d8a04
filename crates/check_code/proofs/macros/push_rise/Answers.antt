use Rattle.std.proofs.Common.{rules}
use Rattle.std.specs.Int.{w64}
use Rattle.std.specs.Int.RustNames.{FitsSigned}
use Rattle.std.proofs.lemmas.Int.{to_z-of_z}
use Rattle.check_code.proofs.Appends.{rise_none}
use Rattle.check_code.proofs.macros.push_rise.Goals as goal

pub returns : goal.returns
returns c =
    let f : FitsSigned w64 c.args.by = search rules in
    let h = simp to_z-of_z at c.if-by-gt0.false in
    rise_none _ c.args.r c.args.by c.args.slot h
