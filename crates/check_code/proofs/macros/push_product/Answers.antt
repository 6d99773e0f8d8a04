use Rattle.std.proofs.Common.{rules}
use Rattle.std.specs.Int.{w64}
use Rattle.std.specs.Int.RustNames.{FitsSigned}
use Rattle.std.proofs.lemmas.Int.{to_z-of_z}
use Rattle.check_code.proofs.Appends.{product_words}
use Rattle.check_code.proofs.macros.push_product.Goals as goal

pub returns : goal.returns
returns c =
    let f : FitsSigned w64 c.args.by = search rules in
    let x = simp to_z-of_z at c.in_ok-push_number.ensures in
    product_words _ _ _ _ c.args.r c.new.result c.new-2.result c.new-3.result c.new-4.result c.new-5.result c.args.by c.new.ensures c.new-2.ensures c.new-3.ensures c.new-4.ensures c.new-5.ensures x c.in_ok-push.ensures c.in_ok-push-2.ensures
