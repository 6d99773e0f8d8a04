use Rattle.std.specs.Int.{w64}
use Rattle.std.specs.Int.RustNames.{FitsSigned}
use Rattle.std.proofs.lemmas.Int.{to_z-of_z}
use Rattle.check_code.proofs.Appends.{all_located, form_words}
use Rattle.check_code.proofs.Values.{short_fits, constant_short}
use Rattle.check_code.proofs.macros.push_form.Goals as goal

pub push_sum-requires : goal.push_sum-requires
push_sum-requires c = all_located c.as_slice.result.now c.as_slice.ensures.terms.locations

pub returns : goal.returns
returns c =
    let f : FitsSigned w64 c.f.inside.constant = short_fits c.f.inside.constant (constant_short c.f.inside.constant c.f.invariant.bounded.constant) in
    let x = simp to_z-of_z at c.in_ok-push_number.ensures in
    form_words _ _ _ c.args.r c.args.f.now c.f.inside.constant c.f.inside.terms _ c.f.inside.turns c.f.view_is c.as_slice.ensures.seen x c.in_ok-push_sum.ensures
