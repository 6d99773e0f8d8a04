use Rattle.std.proofs.Common.{◌≡◌, length, subst}
use Rattle.std.specs.List.{All}
use Rattle.std.proofs.lemmas.List.{take_all}
use Rattle.std.proofs.lemmas.List.Elements.{All-more}
use Rattle.loop_data.specs.declared.equations.Duty.{Duty}
use Rattle.loop_choice.proofs.entries.duties_have_each_depth.Goals as goal

pub loop-duty-preserved : goal.loop-duty-preserved
loop-duty-preserved c =
    All-more (λ (x : Duty). length x.around ≡ 3) c.args.duties.now c.loop-duty.duty-index c.duty-item.result
    c.loop-duty-test.true c.loop-duty.invariant
    (subst (λ (x : Duty). length x.around ≡ 3) c.duty-item.is c.has_each_depth.ensures)

pub returns : goal.returns
returns c =
    subst (All (λ (x : Duty). length x.around ≡ 3))
    (take_all c.loop-duty.duty-index c.args.duties.now c.loop-duty-test.false) c.loop-duty.invariant
