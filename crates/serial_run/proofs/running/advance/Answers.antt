use Rattle.rv64_meaning.specs.Mnemonics.{instr_of}
use Rattle.std.proofs.Common.{subst, sym}
use Rattle.serial_run.specs.Runs.{StandsAtCall, Acts, Keeps, configuration_of}
use Rattle.serial_run.specs.Serial.{step}
use Rattle.serial_run.specs.declared.machine.Machine.{Machine}
use Rattle.serial_run.proofs.Decoded.{stands, acts_as, acts_end, keeps_end}
use Rattle.serial_run.proofs.running.advance.Goals as goal

pub returns-in-Err-clause-acts : goal.returns-in-Err-clause-acts
returns-in-Err-clause-acts g c =
    let m = c.args.m.now in
    let P : Machine → Type 0 = λ v. Acts StandsAtCall step (configuration_of m (g.I.Source.rest c.args.input.now) (g.I.Source.faults c.args.input.now) (g.O.Sink.written c.args.out.now) (g.O.Sink.faults c.args.out.now)) (configuration_of v (g.I.Source.rest c.args.input.now) (g.I.Source.faults c.args.input.now) (g.O.Sink.written c.args.out.now) (g.O.Sink.faults c.args.out.now)) in
    subst P (sym c.end_at.ensures) (acts_end m _ _ _ _ c.in-Err.end c.requires c.in-Err.ensures.ends)

pub returns-in-Err-clause-keeps : goal.returns-in-Err-clause-keeps
returns-in-Err-clause-keeps g c =
    let m = c.args.m.now in
    let P : Machine → Type 0 = λ v. Keeps (configuration_of m (g.I.Source.rest c.args.input.now) (g.I.Source.faults c.args.input.now) (g.O.Sink.written c.args.out.now) (g.O.Sink.faults c.args.out.now)) (configuration_of v (g.I.Source.rest c.args.input.now) (g.I.Source.faults c.args.input.now) (g.O.Sink.written c.args.out.now) (g.O.Sink.faults c.args.out.now)) in
    subst P (sym c.end_at.ensures) (keeps_end m _ _ _ _ c.in-Err.end c.in-Err.ensures.ends.fault)

pub returns-in-Some-clause-acts : goal.returns-in-Some-clause-acts
returns-in-Some-clause-acts g c = acts_as (instr_of c.in-Ok.d) _ _ c.requires c.in-Ok.ensures.instr c.lies.ensures c.in-Some.ensures.areas c.in-Some.ensures.acts

pub returns-in_default-clause-acts : goal.returns-in_default-clause-acts
returns-in_default-clause-acts g c = acts_as (instr_of c.in-Ok.d) _ _ c.requires c.in-Ok.ensures.instr c.lies.ensures c.in_default.ensures.areas c.in_default.ensures.acts

pub returns-in-Some-clause-takes_nothing : goal.returns-in-Some-clause-takes_nothing
returns-in-Some-clause-takes_nothing g c = λ never.
    c.in-Some.ensures.takes_nothing (λ h. never (stands c.args.m.now (instr_of c.in-Ok.d) 63 c.in-Ok.ensures.instr h))

pub returns-in_default-clause-takes_nothing : goal.returns-in_default-clause-takes_nothing
returns-in_default-clause-takes_nothing g c = λ never.
    c.in_default.ensures.takes_nothing (λ h. never (stands c.args.m.now (instr_of c.in-Ok.d) 63 c.in-Ok.ensures.instr h))
