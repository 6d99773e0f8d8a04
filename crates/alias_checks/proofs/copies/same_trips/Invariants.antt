use Rattle.std.proofs.Common.{◌≡◌, ◌++◌, drop}
use Rattle.alias_checks.proofs.copies.same_trips.Given as goal

abbrev pub invariant-loop-trip : goal.invariant-loop-trip
invariant-loop-trip l = l.copies.items ++ drop l.trip-index l.trips ≡ l.trips
