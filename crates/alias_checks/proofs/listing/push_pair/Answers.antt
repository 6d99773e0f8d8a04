use Rattle.std.proofs.Common.{sym, subst, List}
use Rattle.std.specs.List.{All}
use Rattle.std.proofs.lemmas.List.Elements.{All-push}
use Rattle.alias_checks.specs.Listing.{Pair, IsPair}
use Rattle.alias_checks.proofs.listing.push_pair.Goals as goal

pub returns-in_ok-push-clause-each : goal.returns-in_ok-push-clause-each
returns-in_ok-push-clause-each c =
    λ h. subst (λ (xs : List Pair). All (IsPair c.args.accesses.now) xs) (sym c.in_ok-push.ensures.items)
    (All-push (IsPair c.args.accesses.now) c.args.pairs.now.items c.pair_at.result h c.pair_at.ensures.pair)
