use Rattle.std.proofs.Common.{◌≡◌, ◌∙◌, ℕ, get_or, sym, ap, subst}
use Rattle.std.specs.List.{All}
use Rattle.std.proofs.lemmas.List.{get_or_default}
use Rattle.std.proofs.lemmas.Result.{on_ok_weaker}
use Rattle.register_equations.specs.States.{IsInside}
use Rattle.register_equations.proofs.Setting.{alone_met, left_met}
use Rattle.register_equations.proofs.passes.set_met.Goals as goal

pub returns-then-leaves_none : goal.returns-then-leaves_none
returns-then-leaves_none c =
    alone_met c.args.inner.now c.args.flow.now c.args.points.now c.set_after.new.points c.args.sources.now c.args.p c.args.v (get_or c.args.sources.now 0 0) c.if-sources-eq1.true
    (get_or_default c.args.sources.now 0 0 (get_or c.args.sources.now 0 0) c.requires.some)
    (subst (λ u. All (IsInside u c.args.v) c.args.inner.now) c.at-from.ensures.address (c.leaves_none.ensures.0 c.if-leaves_none.true)) c.in_ok-set_after.ensures

pub returns : goal.returns
returns c =
    on_ok_weaker c.meet.result
    (λ s. left_met c.args.inner.now c.args.flow.now c.args.points.now c.set_after.new.points c.meet.new.points c.args.sources.now c.args.p c.args.v (get_or c.args.sources.now 0 0) c.requires.place c.requires.some
    (get_or_default c.args.sources.now 0 0 (get_or c.args.sources.now 0 0) c.requires.some) c.requires.apart c.in_ok-set_after.ensures s)
    c.meet.ensures
