use Rattle.std.proofs.Common.{true≢false, sym, ◌∙◌}
use Rattle.flow_recovery.proofs.Closure.{visited}
use Rattle.flow_recovery.proofs.Found.{Grows-refl, Contains-grown}
use Rattle.flow_recovery.proofs.Following.{leads_found, leads_behind}
use Rattle.flow_recovery.proofs.Pairs.{second_found}
use Rattle.flow_recovery.proofs.reaching.visit.Goals as goal

pub follow-requires-clause-leads : goal.follow-requires-clause-leads
follow-requires-clause-leads c =
    leads_found c.args.elf.now c.args.found.now.keys c.args.at c.pair_in-pair.result c.requires.reached c.requires.found c.pair_in-pair.ensures

pub follow-requires-then-is_some-clause-leads : goal.follow-requires-then-is_some-clause-leads
follow-requires-then-is_some-clause-leads c =
    let elf = c.args.elf.now in
    let mid = c.follow.new.found.keys in
    let second = c.next-second.result in
    let here = Contains-grown c.args.found.now.keys mid c.args.at c.in_ok-follow.ensures.grows c.requires.found in
    let behind =
    second_found elf mid c.args.at second c.pair_in-pair.result c.pair_at-behind.result c.in_ok-follow.ensures.has c.ranges.at.fits c.next-second.ensures c.pair_at-behind.ensures
    (sym c.is_some.ensures ∙ c.if-is_some.true) in
    leads_behind elf mid c.args.at second c.pair_at-behind.result c.in_ok-follow.ensures.reached here behind c.ranges.at.fits c.next-second.ensures c.pair_at-behind.ensures

pub returns-in_ok-follow-2-clause-visited : goal.returns-in_ok-follow-2-clause-visited
returns-in_ok-follow-2-clause-visited c =
    visited c.args.elf.now c.args.found.now.keys c.follow.new.found.keys c.follow-then-is_some.new.found.keys c.args.at c.next-second.result
    c.pair_in-pair.result c.pair_at-behind.result c.in_ok-follow.ensures.grows c.in_ok-follow-2.ensures.grows c.pair_in-pair.ensures
    c.in_ok-follow.ensures.has c.next-second.ensures c.pair_at-behind.ensures (λ m some. c.in_ok-follow-2.ensures.has)

pub returns-else-is_some-clause-visited : goal.returns-else-is_some-clause-visited
returns-else-is_some-clause-visited c =
    let mid = c.follow.new.found.keys in
    visited c.args.elf.now c.args.found.now.keys mid mid c.args.at c.next-second.result
    c.pair_in-pair.result c.pair_at-behind.result c.in_ok-follow.ensures.grows (Grows-refl mid) c.pair_in-pair.ensures
    c.in_ok-follow.ensures.has c.next-second.ensures c.pair_at-behind.ensures
    (λ m some. absurd (true≢false (sym some ∙ sym c.is_some.ensures ∙ c.if-is_some.false)))
