use Rattle.std.proofs.Common.{◌≡◌, ◌++◌, drop}
use Rattle.std.specs.List.{All}
use Rattle.alias_checks.specs.Listing.{row_from, places_in, stores_at, IsPair}
use Rattle.alias_checks.proofs.listing.push_row.Given as goal

abbrev pub invariant-loop-j : goal.invariant-loop-j
invariant-loop-j l =
    record {
      places :
          places_in l.pairs.items ++ row_from (stores_at l.accesses l.i) l.i l.j (drop l.j l.accesses)
          ≡ places_in l.fn.pairs.items ++ row_from (stores_at l.accesses l.i) l.i l.i (drop l.i l.accesses);
      each : All (IsPair l.accesses) l.fn.pairs.items → All (IsPair l.accesses) l.pairs.items;
    }
