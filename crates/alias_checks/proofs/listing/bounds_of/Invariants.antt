use Rattle.std.proofs.Common.{◌≡◌, ◌++◌, drop, map}
use Rattle.alias_checks.specs.Listing.{segment_bounds}
use Rattle.alias_checks.proofs.listing.bounds_of.Given as goal

abbrev pub invariant-loop-segment : goal.invariant-loop-segment
invariant-loop-segment l =
    l.bounds.items ++ map segment_bounds (drop l.segment-index l.segments) ≡ map segment_bounds l.segments
