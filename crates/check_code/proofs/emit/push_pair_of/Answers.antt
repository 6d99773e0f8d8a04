use Rattle.check_code.proofs.Emitted.{pair_words, pair_term}
use Rattle.check_code.proofs.emit.push_pair_of.Goals as goal

pub push_pair-requires-clause-term : goal.push_pair-requires-clause-term
push_pair-requires-clause-term c =
    pair_term c.args.accesses.now c.args.pair.now c.index-accesses-first.result c.index-accesses-second.result c.requires c.index-accesses-first.is c.index-accesses-second.is

pub returns : goal.returns
returns c =
    pair_words _ _ c.args.accesses.now c.args.pair.now c.index-accesses-first.result c.index-accesses-second.result c.requires.first c.requires.second c.index-accesses-first.is c.index-accesses-second.is
    c.in_ok-push_pair.ensures
