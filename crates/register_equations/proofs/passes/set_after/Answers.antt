use Rattle.std.proofs.Common.{length, Some}
use Rattle.std.proofs.lemmas.Result.{on_ok_weaker}
use Rattle.register_equations.proofs.Setting.{writes_only, past_of, after_one}
use Rattle.register_equations.proofs.passes.set_after.Goals as goal

pub returns-in-Some : goal.returns-in-Some
returns-in-Some c =
    let n = length c.args.points.now in
    let flow = c.args.flow.now in
    let only = writes_only flow c.args.k n c.index-instr.result.now c.index-cell.result.now c.written_location.result (Some c.in-Some.r) c.requires.within c.requires.count c.requires.uses c.index-instr.ensures c.index-cell.ensures c.in-Some.is c.written_location.ensures.only in
    let here = past_of flow c.args.points.now c.args.k n c.in-Some.r c.index-instr.result.now c.index-cell.result.now c.form_after-form.result c.requires.within c.requires.count c.requires.uses c.index-instr.ensures c.index-cell.ensures c.form_after-form.ensures in
    on_ok_weaker c.set_form.result
    (λ s. after_one flow c.args.points.now c.copy_forms.new.self c.set_form.new.self c.args.p c.args.k c.in-Some.r c.form_after-form.result c.requires.place c.requires.forms only c.if-r-lt48.true here c.copy_forms.ensures s)
    c.set_form.ensures
