use Rattle.std.proofs.Common.{sym, subst}
use Rattle.std.proofs.lemmas.List.Elements.{Contains-get_or}
use Rattle.std.specs.List.{Contains}
use Rattle.loop_data.proofs.Steps.{has_contains, contains_has}
use Rattle.loop_data.proofs.Tests.{not_true}
use Rattle.loop_data.specs.Nests.{has}
use Rattle.loop_data.proofs.flow.is_in.Goals as goal

pub returns-in-Some : goal.returns-in-Some
returns-in-Some c =
    let f = c.in-Some.ensures.found in
    sym (contains_has c.args.body.now c.args.x (subst (Contains c.args.body.now) f.1 (Contains-get_or c.args.body.now c.in-Some.field-0 0 f.0)))

pub returns-in-None : goal.returns-in-None
returns-in-None c = sym (not_true (has c.args.body.now c.args.x) (λ e. c.in-None.ensures.none (has_contains c.args.body.now c.args.x e)))
