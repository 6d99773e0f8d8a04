use Rattle.std.proofs.Common.{subst, sym, ◌*ℤ◌}
use Rattle.linear_forms.specs.Merging.{AddsTerm, PassesLimits}
use Rattle.linear_forms.proofs.Built.{passes_large}
use Rattle.linear_forms.proofs.Ranges.{product_is, product_large}
use Rattle.linear_forms.proofs.terms.push_multiple.Goals as goal

pub returns-in-Some-clause-built : goal.returns-in-Some-clause-built
returns-in-Some-clause-built c =
    let e = product_is c.args.by c.args.of c.in-Some.product c.ranges.by c.ranges.of c.in-Some.ensures.0 (sym c.in-Some.ensures.1) in
    λ h. subst (λ z. AddsTerm c.args.list.now.items c.push_term.new.list.items (c.args.loc, z)) e (c.push_term.ensures.built h)

pub returns-in-Some-clause-limits : goal.returns-in-Some-clause-limits
returns-in-Some-clause-limits c =
    let e = product_is c.args.by c.args.of c.in-Some.product c.ranges.by c.ranges.of c.in-Some.ensures.0 (sym c.in-Some.ensures.1) in
    λ h. subst (λ z. PassesLimits c.args.list.now.items (c.args.loc, z)) e (c.push_term.ensures.limits h)

pub returns-in-None-clause-limits : goal.returns-in-None-clause-limits
returns-in-None-clause-limits c =
    let p = product_large c.args.by c.args.of c.ranges.by c.ranges.of c.in-None.ensures in
    λ h. passes_large _ (c.args.loc, c.args.by *ℤ c.args.of) p.0 p.1
