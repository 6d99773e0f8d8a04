use Rattle.std.proofs.Common.{◌≡◌, ◌<◌, refl, ap, sym, subst, true, Option, arith}
use Rattle.std.specs.Prelude.{is_some}
use Rattle.serial_run.specs.Runs.{Runs, configuration_of}
use Rattle.serial_run.specs.declared.machine.Machine.{Machine}
use Rattle.serial_run.specs.declared.machine.End.{End}
use Rattle.serial_run.proofs.Runs.{runs_ended, runs_none, runs_stop, steps_stop}
use Rattle.serial_run.proofs.Decoded.{acts_end, no_port}
use Rattle.serial_run.proofs.running.run_counted.Goals as goal

pub returns-in-Some-clause-runs : goal.returns-in-Some-clause-runs
returns-in-Some-clause-runs g c =
    let some : is_some c.args.m.now.ended ≡ true = ap (λ (o : Option End). is_some o) c.in-Some.is in runs_ended c.args.fuel _ some

pub returns-in-Err-clause-steps : goal.returns-in-Err-clause-steps
returns-in-Err-clause-steps g c = λ s e h f.
    let source = g.I.Source in
    let sink = g.O.Sink in
    let some : 0 < c.args.fuel = omega arith in
    let acts = acts_end c.args.m.now (source.rest c.args.input.now) (source.faults c.args.input.now) (sink.written c.args.out.now) (sink.faults c.args.out.now) c.in-Err.end c.in_default.is c.in-Err.ensures.ends in
    steps_stop c.args.fuel 0 _ _ _ (runs_none _ c.in_default.is) acts some refl s e h (no_port c.in-Err.end c.in-Err.ensures.ends.fault)

pub returns-in-Err-clause-runs : goal.returns-in-Err-clause-runs
returns-in-Err-clause-runs g c =
    let source = g.I.Source in
    let sink = g.O.Sink in
    let some : 0 < c.args.fuel = omega arith in
    let acts = acts_end c.args.m.now _ _ _ _ c.in-Err.end c.in_default.is c.in-Err.ensures.ends in
    let P : Machine → Type 0 = λ v. Runs c.args.fuel
    (configuration_of c.args.m.now (source.rest c.args.input.now) (source.faults c.args.input.now) (sink.written c.args.out.now) (sink.faults c.args.out.now))
    (configuration_of v (source.rest c.args.input.now) (source.faults c.args.input.now) (sink.written c.args.out.now) (sink.faults c.args.out.now)) in
    subst P (sym c.end_at.ensures) (runs_stop c.args.fuel 0 _ _ _ (runs_none _ c.in_default.is) acts some refl)
