use Rattle.turn_copies.proofs.Turns.{passage_law, visits_law}
use Rattle.turn_copies.proofs.a_passage_is_a_turn.Goals as goal

pub returns-clause-passage : goal.returns-clause-passage
returns-clause-passage c = passage_law

pub returns-clause-visits : goal.returns-clause-visits
returns-clause-visits c = visits_law
