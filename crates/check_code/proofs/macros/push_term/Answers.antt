use Rattle.std.proofs.Common.{rules}
use Rattle.std.specs.Int.{w64}
use Rattle.std.specs.Int.RustNames.{FitsSigned}
use Rattle.std.proofs.lemmas.Int.{to_z-of_z}
use Rattle.linear_forms.specs.Locations.{number_of}
use Rattle.check_code.specs.Macros.{bring}
use Rattle.check_code.proofs.Appends.{with_product}
use Rattle.check_code.proofs.macros.push_term.Goals as goal

pub returns : goal.returns
returns c =
    let f : FitsSigned w64 c.args.term.now.1 = search rules in
    let y = simp to_z-of_z at c.in_ok-push_product.ensures in
    with_product _ _ _ (λ k. bring k (number_of c.args.term.now.0)) c.args.r c.new.result c.args.term.now.1 c.new.ensures c.in_ok-push_location.ensures y
