use Rattle.std.proofs.Common.{refl}
use Rattle.distance_vectors.proofs.Firsts.{plus_minus_first, minus_plus_first, minus_minus_first, none_first}
use Rattle.distance_vectors.proofs.search.with_sizes.Goals as goal

pub returns-then-meet_at-2 : goal.returns-then-meet_at-2
returns-then-meet_at-2 c =
    plus_minus_first c.args.a.now c.args.b.now c.args.root c.args.second c.args.third c.requires.root c.requires.second
    c.requires.third c.if-meet_at.ensures.1 (c.if-meet_at-2.ensures.0 refl)

pub returns-then-meet_at-3 : goal.returns-then-meet_at-3
returns-then-meet_at-3 c =
    minus_plus_first c.args.a.now c.args.b.now c.args.root c.args.second c.args.third c.requires.root c.requires.second
    c.requires.third c.if-meet_at.ensures.1 c.if-meet_at-2.ensures.1 (c.if-meet_at-3.ensures.0 refl)

pub returns-then-meet_at-4 : goal.returns-then-meet_at-4
returns-then-meet_at-4 c =
    minus_minus_first c.args.a.now c.args.b.now c.args.root c.args.second c.args.third c.requires.root c.requires.second
    c.requires.third c.if-meet_at.ensures.1 c.if-meet_at-2.ensures.1 c.if-meet_at-3.ensures.1
    (c.if-meet_at-4.ensures.0 refl)

pub returns : goal.returns
returns c =
    none_first c.args.a.now c.args.b.now c.args.root c.args.second c.args.third c.requires.root c.requires.second
    c.requires.third c.if-meet_at.ensures.1 c.if-meet_at-2.ensures.1 c.if-meet_at-3.ensures.1
    c.if-meet_at-4.ensures.1
