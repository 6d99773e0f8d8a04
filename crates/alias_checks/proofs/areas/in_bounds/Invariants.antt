use Rattle.std.proofs.Common.{◌≡◌, drop}
use Rattle.std.specs.List.{list_any}
use Rattle.alias_checks.specs.Areas.{bounds_have}
use Rattle.alias_checks.proofs.areas.in_bounds.Given as goal

abbrev pub invariant-loop-area : goal.invariant-loop-area
invariant-loop-area l =
    list_any (bounds_have l.permission l.range) (drop l.area-index l.areas)
    ≡ list_any (bounds_have l.permission l.range) l.areas
