use Rattle.std.proofs.Common.{◌≡◌, ◌++◌, drop, map}
use Rattle.hart_core.specs.Counting.{events_of}
use Rattle.hart_core.proofs.harts.events_in.Given as goal

abbrev pub invariant-loop-i : goal.invariant-loop-i
invariant-loop-i l = l.events.items ++ map events_of (drop l.i l.seats) ≡ map events_of l.seats
