use Rattle.check_code.proofs.Emitted.{trips_words}
use Rattle.check_code.proofs.emit.push_trips.Goals as goal

pub returns-clause-words : goal.returns-clause-words
returns-clause-words c = trips_words _ _ _ c.args.trips.now c.index-trips-0-3.result c.requires.some c.index-trips-0-3.is c.in_ok-push_root.ensures c.in_ok-push_inners.ensures.words
