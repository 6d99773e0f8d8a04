use Rattle.std.proofs.Common.{◌≡◌, ◌++◌, drop}
use Rattle.std.specs.List.{All}
use Rattle.alias_checks.specs.Listing.{rows_from, places_in, IsPair}
use Rattle.alias_checks.proofs.listing.pairs_of.Given as goal

abbrev pub invariant-loop-i : goal.invariant-loop-i
invariant-loop-i l =
    record {
      places : places_in l.pairs.items ++ rows_from l.i (drop l.i l.accesses) ≡ rows_from 0 l.accesses;
      each : All (IsPair l.accesses) l.pairs.items;
    }
