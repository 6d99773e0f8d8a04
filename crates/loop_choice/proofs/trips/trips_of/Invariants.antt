use Rattle.loop_data.specs.Lookups.{form_at}
use Rattle.loop_choice.proofs.Outcomes.{AreTripsTo}
use Rattle.loop_choice.proofs.trips.trips_of.Given as goal

abbrev pub invariant-loop-level : goal.invariant-loop-level
invariant-loop-level l = AreTripsTo l.graph l.shape.levels (form_at l.equations.points) l.level l.trips.items
