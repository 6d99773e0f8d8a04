use Rattle.std.proofs.Common.{ℕ, ◌≡◌, List, length, drop}
use Rattle.stub_laws.specs.Code.{Appended}
use Rattle.check_code.specs.Macros.{permitted, areas_code}
use Rattle.check_code.proofs.ranges.push_areas.Given as goal

-- what completes the words so far completes those at the start
abbrev pub invariant-loop-area : goal.invariant-loop-area
invariant-loop-area l = record {
  left : l.left ≡ length (permitted l.permission (drop l.area-index l.areas));
  words : (fin : List ℕ) → Appended l.code.items fin (areas_code (permitted l.permission (drop l.area-index l.areas))) → Appended l.initial.code.items fin (areas_code (permitted l.permission l.areas));
}
