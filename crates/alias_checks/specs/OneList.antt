-- The accesses of a loop have one list of pairs.
use Rattle.std.specs.Prelude.{◌≡◌, List}
use Rattle.loop_data.specs.declared.accesses.Access.{Access}
use Rattle.alias_checks.specs.Listing.{Pair, ArePairs}

abbrev pub OnePairsLaw : Type 0
OnePairsLaw = (accesses : List Access) (pairs others : List Pair) → ArePairs accesses pairs → ArePairs accesses others
    → pairs ≡ others
