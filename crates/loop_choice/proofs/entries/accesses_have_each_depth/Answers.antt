use Rattle.std.proofs.Common.{◌≡◌, length, subst}
use Rattle.std.specs.List.{All}
use Rattle.std.proofs.lemmas.List.{take_all}
use Rattle.std.proofs.lemmas.List.Elements.{All-more}
use Rattle.loop_data.specs.declared.accesses.Access.{Access}
use Rattle.loop_choice.proofs.entries.accesses_have_each_depth.Goals as goal

pub loop-access-preserved : goal.loop-access-preserved
loop-access-preserved c =
    All-more (λ (x : Access). length x.around ≡ 3) c.args.accesses.now c.loop-access.access-index c.access-item.result
    c.loop-access-test.true c.loop-access.invariant
    (subst (λ (x : Access). length x.around ≡ 3) c.access-item.is c.has_each_depth.ensures)

pub returns : goal.returns
returns c =
    subst (All (λ (x : Access). length x.around ≡ 3))
    (take_all c.loop-access.access-index c.args.accesses.now c.loop-access-test.false) c.loop-access.invariant
