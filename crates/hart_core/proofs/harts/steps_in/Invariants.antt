use Rattle.std.proofs.Common.{◌≡◌, ◌+◌, ◌<◌, ◌^◌, drop}
use Rattle.hart_core.specs.Machine.{capped}
use Rattle.hart_core.specs.Counting.{sum_of_events, steps_of}
use Rattle.hart_core.proofs.harts.steps_in.Given as goal

abbrev pub invariant-loop-i : goal.invariant-loop-i
invariant-loop-i l = record {
  sum : capped (l.steps + sum_of_events (drop l.i l.seats)) ≡ steps_of l.seats;
  below : l.steps < 2 ^ 64;
}
