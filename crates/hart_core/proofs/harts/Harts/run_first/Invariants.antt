use Rattle.std.proofs.Common.{◌≡◌}
use Rattle.hart_core.specs.Machine.{State}
use Rattle.hart_core.specs.Acting.{configuration_of, Keeps}
use Rattle.hart_core.specs.Runs.{TellsReads, DoesNoCall}
use Rattle.hart_core.proofs.AloneRuns.{RunsOn}
use Rattle.hart_core.proofs.harts.Harts.run_first.Given as goal

abbrev pub invariant-loop-k : goal.invariant-loop-k
invariant-loop-k g l =
    let source = g.I.Source in
    let sink = g.O.Sink in
    let before = configuration_of l.initial.self (source.rest l.initial.input) (source.faults l.initial.input) (sink.written l.initial.out) (sink.faults l.initial.out) in
    let now = configuration_of l.self (source.rest l.input) (source.faults l.input) (sink.written l.out) (sink.faults l.out) in
    record {
      runs : RunsOn l.k before now;
      keeps : Keeps before now;
      untaken : (s : State) → l.initial.self ≡ s.core → DoesNoCall 63 l.k s → l.input ≡ l.initial.input;
      unsent : (s : State) → l.initial.self ≡ s.core → TellsReads l.k s (source.rest l.initial.input) → DoesNoCall 64 l.k s
          → l.out ≡ l.initial.out;
    }
