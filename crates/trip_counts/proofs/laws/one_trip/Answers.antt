use Rattle.trip_counts.proofs.OneTrip.{one_trip}
use Rattle.trip_counts.proofs.laws.one_trip.Goals as goal

pub returns : goal.returns
returns c = one_trip
