use Rattle.std.proofs.Common.{◌≡◌, ◌++◌, ◌≤◌, map, drop, length}
use Rattle.std.specs.List.{All, list_all}
use Rattle.linear_forms.specs.Forms.{integers}
use Rattle.alias_checks.specs.Areas.{in_bounds}
use Rattle.alias_checks.specs.AccessTests.{access_fits, place_of, IsLowPlace}
use Rattle.alias_checks.proofs.access_tests.places_of.Given as goal

abbrev pub invariant-loop-access : goal.invariant-loop-access
invariant-loop-access l =
    record {
      many : length l.places.items ≤ l.access-index;
      fit :
          list_all (access_fits (in_bounds l.areas) (integers l.entry) l.last) (drop l.access-index l.accesses)
          ≡ list_all (access_fits (in_bounds l.areas) (integers l.entry) l.last) l.accesses;
      places :
          l.places.items ++ map (place_of (integers l.entry) l.last) (drop l.access-index l.accesses)
          ≡ map (place_of (integers l.entry) l.last) l.accesses;
      low : All IsLowPlace l.places.items;
    }
