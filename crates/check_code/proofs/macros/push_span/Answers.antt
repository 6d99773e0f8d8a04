use Rattle.std.proofs.Common.{rules}
use Rattle.std.specs.Int.{w64}
use Rattle.std.specs.Int.RustNames.{FitsSigned}
use Rattle.std.proofs.lemmas.Int.{to_z-of_z}
use Rattle.rv64_decode.specs.declared.xinstr.XInstr.TheVariants.{Get}
use Rattle.check_code.proofs.Appends.{with_product}
use Rattle.check_code.proofs.macros.push_span.Goals as goal

pub returns : goal.returns
returns c =
    let f : FitsSigned w64 c.args.by = search rules in
    let y = simp to_z-of_z at c.in_ok-push_product.ensures in
    with_product _ _ _ (λ k. Get k c.args.slot) c.args.r c.new-rd.result c.args.by c.new-rd.ensures c.in_ok-push.ensures y
