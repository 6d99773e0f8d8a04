use Rattle.std.proofs.Common.{ℕ, ◌<◌, ◌≤◌, sym, subst, arith}
use Rattle.std.specs.List.{Any}
use Rattle.linear_forms.specs.Locations.{IsLocation}
use Rattle.register_equations.specs.Astray.{IsAstray}
use Rattle.register_equations.proofs.Equated.{none_more, not_told}
use Rattle.register_equations.proofs.unconfirmed.unconfirmed.Goals as goal

pub loop-r-preserved : goal.loop-r-preserved
loop-r-preserved c =
    none_more (λ (q : ℕ). Any (IsAstray c.args.flow.now c.args.levels.now c.args.classes.now c.args.points.now q) c.args.levels.now) c.loop-r.r c.loop-r.invariant
    (not_told c.some_astray.result _ c.some_astray.ensures c.if-some_astray.false)

pub returns-then-some_astray : goal.returns-then-some_astray
returns-then-some_astray c =
    let P = λ (q : ℕ). Any (IsAstray c.args.flow.now c.args.levels.now c.args.classes.now c.args.points.now q) c.args.levels.now in
    subst (λ (n : ℕ). IsLocation c.location.result × P n × ((q : ℕ) → 1 ≤ q → q < n → ¬ P q)) (sym c.location.ensures.number)
    (c.location.ensures.is, c.some_astray.ensures.0 c.if-some_astray.true, c.loop-r.invariant)

pub returns : goal.returns
returns c q lo up = let t = c.loop-r-test.false in c.loop-r.invariant q lo (omega arith)
