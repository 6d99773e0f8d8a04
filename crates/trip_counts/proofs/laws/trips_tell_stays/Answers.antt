use Rattle.trip_counts.proofs.Exits.{turn_told, pass_told}
use Rattle.trip_counts.proofs.Turns.{stays_told}
use Rattle.trip_counts.proofs.laws.trips_tell_stays.Goals as goal

pub returns-clause-turns : goal.returns-clause-turns
returns-clause-turns c = turn_told

pub returns-clause-passes : goal.returns-clause-passes
returns-clause-passes c = pass_told

pub returns-clause-stays : goal.returns-clause-stays
returns-clause-stays c = λ G ls nest words C at s n follows tells forms. stays_told G ls nest words C s n follows at tells forms
