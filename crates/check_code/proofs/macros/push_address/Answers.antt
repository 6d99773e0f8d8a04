use Rattle.std.proofs.Common.{rules}
use Rattle.std.specs.Int.{w64}
use Rattle.std.specs.Int.RustNames.{FitsSigned}
use Rattle.std.proofs.lemmas.Int.{to_z-of_z}
use Rattle.check_code.proofs.Appends.{based_words}
use Rattle.check_code.proofs.macros.push_address.Goals as goal

pub returns-in_ok-push_offset-in-Some : goal.returns-in_ok-push_offset-in-Some
returns-in_ok-push_offset-in-Some c =
    let f : FitsSigned w64 c.args.c.now.offset = search rules in
    let y = simp to_z-of_z at c.in_ok-push_offset-in-Some.ensures in
    based_words _ _ _ c.args.r c.in-Some.base c.args.c.now.base c.args.c.now.offset c.in-Some.is c.in_ok-push_register-in-Some.ensures y
