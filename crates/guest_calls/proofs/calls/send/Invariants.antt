use Rattle.std.proofs.Common.{◌≡◌, ℕ, ◌+◌, ◌-◌, ◌≤◌, ◌++◌, List, true, Some}
use Rattle.rv64_decode.specs.Area.{readable_of}
use Rattle.guest_memory.specs.Spans.{all_permitted, bytes_at}
use Rattle.guest_calls.proofs.calls.send.Given as goal

abbrev pub invariant-loop-done : goal.invariant-loop-done
invariant-loop-done g l = record {
  within : l.done ≤ l.len;
  readable : all_permitted readable_of (l.len - l.done) l.mem (l.addr + l.done) ≡ true;
  sent : (ys : List ℕ) → g.O.Sink.written l.initial.out ≡ Some ys → g.O.Sink.written l.out ≡ Some (ys ++ bytes_at l.done l.mem l.addr);
  faults : g.O.Sink.faults l.initial.out ≤ g.O.Sink.faults l.out;
}

abbrev pub decreases-loop-done : goal.decreases-loop-done
decreases-loop-done g l = l.len - l.done
