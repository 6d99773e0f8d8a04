use Rattle.std.proofs.Common.{◌≡◌, ℕ, ◌-◌, ◌≤◌, ◌++◌, List, Some, length, take}
use Rattle.rewrite_cli.proofs.report.write_all.Given as goal

abbrev pub invariant-loop-done : goal.invariant-loop-done
invariant-loop-done g l = record {
  within : l.done ≤ length l.bytes;
  written : (zs : List ℕ) → g.P.Sink.written l.initial.report ≡ Some zs
      → g.P.Sink.written l.report ≡ Some (zs ++ take l.done l.bytes);
  faults : g.P.Sink.faults l.initial.report ≤ g.P.Sink.faults l.report;
}

abbrev pub decreases-loop-done : goal.decreases-loop-done
decreases-loop-done g l = length l.bytes - l.done
