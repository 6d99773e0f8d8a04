use Rattle.guest_memory.specs.Layout.{AreasLieFrom}
use Rattle.std.proofs.Common.{◌≡◌}
use Rattle.serial_run.specs.Serial.{State}
use Rattle.serial_run.specs.Runs.{TellsReads, NeverCalls, Keeps, configuration_of}
use Rattle.serial_run.specs.Table.{IsTableOf}
use Rattle.serial_run.proofs.Runs.{RunsOn}
use Rattle.serial_run.proofs.running.run_from.Given as goal

abbrev pub invariant-loop-k : goal.invariant-loop-k
invariant-loop-k g l =
    let source = g.I.Source in
    let sink = g.O.Sink in
    let before = configuration_of l.initial.m (source.rest l.initial.input) (source.faults l.initial.input) (sink.written l.initial.out) (sink.faults l.initial.out) in
    let now = configuration_of (record l.m { pc = l.pc }) (source.rest l.input) (source.faults l.input) (sink.written l.out) (sink.faults l.out) in
    record {
      runs : RunsOn l.k before now;
      keeps : Keeps before now;
      table : IsTableOf l.m.memory l.table;
      lie : AreasLieFrom 0 l.m.memory;
      untaken : (s : State) → l.initial.m ≡ s.machine → NeverCalls 63 l.k s → l.input ≡ l.initial.input;
      unsent : (s : State) → l.initial.m ≡ s.machine → TellsReads l.k s (source.rest l.initial.input) → NeverCalls 64 l.k s
          → l.out ≡ l.initial.out;
    }
