use Rattle.turn_copies.proofs.Sharing.{access_law, disjoint_law, replay_law}
use Rattle.turn_copies.proofs.turns_share_no_byte.Goals as goal

pub returns-clause-accesses : goal.returns-clause-accesses
returns-clause-accesses c = access_law

pub returns-clause-disjoint : goal.returns-clause-disjoint
returns-clause-disjoint c = disjoint_law

pub returns-clause-replayed : goal.returns-clause-replayed
returns-clause-replayed c = replay_law
