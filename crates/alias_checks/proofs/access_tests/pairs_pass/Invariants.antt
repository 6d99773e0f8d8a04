use Rattle.std.proofs.Common.{◌≡◌, drop}
use Rattle.std.specs.List.{list_all}
use Rattle.alias_checks.specs.AccessTests.{pair_passes}
use Rattle.alias_checks.proofs.access_tests.pairs_pass.Given as goal

abbrev pub invariant-loop-pair : goal.invariant-loop-pair
invariant-loop-pair l =
    list_all (pair_passes l.places l.last) (drop l.pair-index l.pairs) ≡ list_all (pair_passes l.places l.last) l.pairs
