use Rattle.std.proofs.Common.{take}
use Rattle.loop_shapes.proofs.Flagged.{IsLeastSoFar}
use Rattle.loop_shapes.proofs.marks.least_flagged.Given as goal

abbrev pub invariant-loop-place : goal.invariant-loop-place
invariant-loop-place l = IsLeastSoFar l.flags (take l.place-index l.found) l.least
