use Rattle.std.proofs.Common.{◌≡◌, ◌++◌, drop}
use Rattle.guest_memory.specs.Areas.{segment_areas}
use Rattle.guest_memory.proofs.start.build.Given as goal

abbrev pub invariant-loop-segment : goal.invariant-loop-segment
invariant-loop-segment l = l.areas.items ++ segment_areas (drop l.segment-index l.segments) ≡ segment_areas l.segments
