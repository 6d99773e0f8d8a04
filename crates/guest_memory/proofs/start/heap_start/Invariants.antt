use Rattle.std.proofs.Common.{◌≡◌, drop, max}
use Rattle.guest_memory.specs.Areas.{highest_end}
use Rattle.guest_memory.proofs.start.heap_start.Given as goal

abbrev pub invariant-loop-segment : goal.invariant-loop-segment
invariant-loop-segment l = max l.end (highest_end (drop l.segment-index l.segments)) ≡ highest_end l.segments
