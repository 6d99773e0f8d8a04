use Rattle.std.proofs.Common.{◌≡◌, ◌+◌, ◌≤◌, length, drop}
use Rattle.check_code.specs.Macros.{permitted}
use Rattle.check_code.proofs.ranges.count.Given as goal

abbrev pub invariant-loop-area : goal.invariant-loop-area
invariant-loop-area l = record {
  few : l.count ≤ l.area-index;
  all : l.count + length (permitted l.permission (drop l.area-index l.areas)) ≡ length (permitted l.permission l.areas);
}
