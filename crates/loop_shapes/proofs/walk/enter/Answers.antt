use Rattle.std.proofs.Common.{◌≡◌, ℕ, ◌<◌, ◌≤◌, length, get_or, inl, inr, None, ap, ◌∙◌, sym, subst, arith}
use Rattle.std.proofs.lemmas.List.{length_push}
use Rattle.std.proofs.lemmas.Result.{on_ok_weaker}
use Rattle.loop_shapes.specs.Walk.{AreBelow}
use Rattle.loop_shapes.proofs.Walking.{leads_below, no_more_places}
use Rattle.loop_shapes.proofs.walk.enter.Goals as goal

pub push_step-requires-clause-within : goal.push_step-requires-clause-within
push_step-requires-clause-within c b e =
    let n = c.in_ok-add.ensures.set.count in
    let m = c.requires.walk.entered.count in
    let l = leads_below c.args.steps.now c.args.place b _ c.requires.steps c.requires.within (inl e) in
    omega arith

pub push_step-requires-clause-stack : goal.push_step-requires-clause-stack
push_step-requires-clause-stack c i m =
    let n = c.in_ok-add.ensures.set.count in
    let k = c.requires.walk.entered.count in
    let l = c.requires.walk.stack i m in
    omega arith

pub push_step-requires-2-clause-within : goal.push_step-requires-2-clause-within
push_step-requires-2-clause-within c b e =
    let n = c.in_ok-add.ensures.set.count in
    let m = c.requires.walk.entered.count in
    let l = leads_below c.args.steps.now c.args.place b _ c.requires.steps c.requires.within (inr e) in
    omega arith

pub returns-clause-walk : goal.returns-clause-walk
returns-clause-walk c =
    let n = c.in_ok-add.ensures.set.count ∙ c.requires.walk.entered.count in
    on_ok_weaker c.push_step-2.result (λ s. record { stack = subst (λ (k : ℕ). AreBelow k c.push_step-2.new.stack.items) n s; entered = record { count = n; indexed = c.in_ok-add.ensures.set.indexed }; left = c.requires.walk.left }) c.push_step-2.ensures.stack

pub returns-clause-fewer : goal.returns-clause-fewer
returns-clause-fewer c =
    let n = c.in_ok-add.ensures.set.count ∙ c.requires.walk.entered.count in
    let most = no_more_places (length c.args.steps.now) c.add.new.self (record { count = n; indexed = c.in_ok-add.ensures.set.indexed }) in
    let one = ap length c.in_ok-add.ensures.items ∙ length_push c.args.walk.now.entered.found.items c.args.place in
    let first = c.in_ok-push_step.ensures.count in
    on_ok_weaker c.push_step-2.result (λ second. omega arith) c.push_step-2.ensures.count
