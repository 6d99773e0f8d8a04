use Rattle.check_numbers.proofs.Trips.{trip_words}
use Rattle.check_numbers.proofs.trips_are_told_in_words.Goals as goal

pub returns : goal.returns
returns c = λ relation signed a b step o h la lb. trip_words relation signed a b step o h la lb
