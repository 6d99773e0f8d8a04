use Rattle.std.proofs.Common.{◌≡◌, ℕ, ◌+◌, ◌-◌, ◌≤◌, List, length, drop, true, Some}
use Rattle.rv64_decode.specs.Area.{writable_of}
use Rattle.guest_memory.specs.Spans.{all_permitted}
use Rattle.guest_calls.specs.Faults.{IsStored}
use Rattle.guest_calls.proofs.calls.fill.Given as goal

abbrev pub invariant-loop-done : goal.invariant-loop-done
invariant-loop-done g l = record {
  within : l.done ≤ l.len;
  writable : all_permitted writable_of (l.len - l.done) l.mem (l.addr + l.done) ≡ true;
  had : (xs : List ℕ) → g.I.Source.rest l.initial.input ≡ Some xs → l.done ≤ length xs;
  rest : (xs : List ℕ) → g.I.Source.rest l.initial.input ≡ Some xs → g.I.Source.rest l.input ≡ Some (drop l.done xs);
  stored : IsStored l.initial.mem l.addr l.done (g.I.Source.rest l.initial.input) l.mem;
  faults : g.I.Source.faults l.initial.input ≤ g.I.Source.faults l.input;
}

abbrev pub decreases-loop-done : goal.decreases-loop-done
decreases-loop-done g l = l.len - l.done
