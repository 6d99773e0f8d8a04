use Rattle.rv64_meaning.specs.Mnemonics.{instr_of}
use Rattle.std.proofs.Common.{◌≡◌, ◌∙◌, refl, sym, subst, None, arith}
use Rattle.std.proofs.lemmas.List.Elements.{All-replicate}
use Rattle.guest_memory.proofs.Kept.{keep-lie}
use Rattle.serial_run.specs.Runs.{Runs, Keeps, configuration_of}
use Rattle.serial_run.specs.Table.{IsEntryOf}
use Rattle.serial_run.specs.declared.machine.Machine.{Machine}
use Rattle.serial_run.proofs.Steps.{executed_none}
use Rattle.serial_run.proofs.Runs.{runs_none, keeps_self, keeps_on, runs_more, runs_stop, steps_stop, runs_out, tells_fewer, tells_never, never_fewer, never_next}
use Rattle.serial_run.proofs.Decoded.{acts_as, acts_end, keeps_end, table-keeps, no_port, none_of, stands}
use Rattle.serial_run.proofs.running.run_from.Goals as goal

pub loop-k-init : goal.loop-k-init
loop-k-init g c = record {
  runs = runs_none _ c.requires.running;
  keeps = keeps_self _;
  table = All-replicate (IsEntryOf c.args.m.now.memory) 4096 _ (record { is = c.requires.first });
  lie = c.lies.ensures;
  untaken = λ s e n. refl;
  unsent = λ s e t n. refl;
}

pub loop-k-preserved : goal.loop-k-preserved
loop-k-preserved g c =
    let none : c.execute.new.m.ended ≡ None = none_of _ c.in-Some.ensures.ended in
    let acts = acts_as (instr_of c.decoded_in-decoded.result.now) _ _ c.loop-k.invariant.runs.running c.decoded_in-decoded.ensures c.loop-k.invariant.lie
    c.in-Some.ensures.areas c.in-Some.ensures.acts in
    record {
      runs = runs_more _ _ _ _ c.loop-k.invariant.runs acts none;
      keeps = keeps_on _ _ _ c.loop-k.invariant.keeps c.in-Some.ensures.keeps;
      table = table-keeps _ _ _ c.loop-k.invariant.lie c.in-Some.ensures.areas c.find_instr.ensures.table;
      lie = keep-lie 0 _ _ c.loop-k.invariant.lie c.in-Some.ensures.areas;
      untaken = λ s e never.
          c.in-Some.ensures.takes_nothing (λ h. never_next 63 _ _ _ _ c.loop-k.invariant.runs s e (omega arith)
          (tells_never _ s _ never) never (stands _ (instr_of c.decoded_in-decoded.result.now) 63 c.decoded_in-decoded.ensures h))
          ∙ c.loop-k.invariant.untaken s e (never_fewer 63 _ _ s (omega arith) never);
      unsent = λ s e told never.
          c.in-Some.ensures.sends_nothing (λ h. never_next 64 _ _ _ _ c.loop-k.invariant.runs s e (omega arith)
          told never (stands _ (instr_of c.decoded_in-decoded.result.now) 64 c.decoded_in-decoded.ensures h))
          ∙ c.loop-k.invariant.unsent s e (tells_fewer _ _ s _ (omega arith) told) (never_fewer 64 _ _ s (omega arith) never);
    }

pub returns-in-None-clause-steps : goal.returns-in-None-clause-steps
returns-in-None-clause-steps g c =
    let acts = acts_as (instr_of c.decoded_in-decoded.result.now) _ _ c.loop-k.invariant.runs.running c.decoded_in-decoded.ensures c.loop-k.invariant.lie
    c.in-None.ensures.areas c.in-None.ensures.acts in
    steps_stop _ _ _ _ _ c.loop-k.invariant.runs acts c.loop-k-test.true (sym c.in-None.ensures.ended)

pub returns-in-None-clause-runs : goal.returns-in-None-clause-runs
returns-in-None-clause-runs g c =
    let acts = acts_as (instr_of c.decoded_in-decoded.result.now) _ _ c.loop-k.invariant.runs.running c.decoded_in-decoded.ensures c.loop-k.invariant.lie
    c.in-None.ensures.areas c.in-None.ensures.acts in
    runs_stop _ _ _ _ _ c.loop-k.invariant.runs acts c.loop-k-test.true (sym c.in-None.ensures.ended)

pub returns-in-None-clause-keeps : goal.returns-in-None-clause-keeps
returns-in-None-clause-keeps g c = keeps_on _ _ _ c.loop-k.invariant.keeps c.in-None.ensures.keeps

pub returns-in-None-clause-takes_nothing : goal.returns-in-None-clause-takes_nothing
returns-in-None-clause-takes_nothing g c = λ s e never.
    c.in-None.ensures.takes_nothing (λ h. never_next 63 _ _ _ _ c.loop-k.invariant.runs s e c.loop-k-test.true
    (tells_never _ s _ never) never (stands _ (instr_of c.decoded_in-decoded.result.now) 63 c.decoded_in-decoded.ensures h))
    ∙ c.loop-k.invariant.untaken s e (never_fewer 63 _ _ s (omega arith) never)

pub returns-in-None-clause-sends_nothing : goal.returns-in-None-clause-sends_nothing
returns-in-None-clause-sends_nothing g c = λ s e told never.
    c.in-None.ensures.sends_nothing (λ h. never_next 64 _ _ _ _ c.loop-k.invariant.runs s e c.loop-k-test.true
    told never (stands _ (instr_of c.decoded_in-decoded.result.now) 64 c.decoded_in-decoded.ensures h))
    ∙ c.loop-k.invariant.unsent s e (tells_fewer _ _ s _ (omega arith) told) (never_fewer 64 _ _ s (omega arith) never)

pub returns-then-not-find_instr-clause-takes_nothing : goal.returns-then-not-find_instr-clause-takes_nothing
returns-then-not-find_instr-clause-takes_nothing g c = λ s e never.
    c.loop-k.invariant.untaken s e (never_fewer 63 _ _ s (omega arith) never)

pub returns-then-not-find_instr-clause-sends_nothing : goal.returns-then-not-find_instr-clause-sends_nothing
returns-then-not-find_instr-clause-sends_nothing g c = λ s e told never.
    c.loop-k.invariant.unsent s e (tells_fewer _ _ s _ (omega arith) told) (never_fewer 64 _ _ s (omega arith) never)

pub returns-clause-takes_nothing : goal.returns-clause-takes_nothing
returns-clause-takes_nothing g c = λ s e never.
    c.loop-k.invariant.untaken s e (never_fewer 63 _ _ s (omega arith) never)

pub returns-clause-sends_nothing : goal.returns-clause-sends_nothing
returns-clause-sends_nothing g c = λ s e told never.
    c.loop-k.invariant.unsent s e (tells_fewer _ _ s _ (omega arith) told) (never_fewer 64 _ _ s (omega arith) never)

pub returns-then-not-find_instr-clause-steps : goal.returns-then-not-find_instr-clause-steps
returns-then-not-find_instr-clause-steps g c = λ s e h f.
    let m : Machine = record c.loop-k.m { pc = c.loop-k.pc } in
    let acts = acts_end m _ _ _ _ c.find_instr.new.end c.loop-k.invariant.runs.running (c.find_instr.ensures.ends c.if-not-find_instr.true) in
    steps_stop _ _ _ _ _ c.loop-k.invariant.runs acts c.loop-k-test.true refl s e h (no_port c.find_instr.new.end (c.find_instr.ensures.ends c.if-not-find_instr.true).fault)

pub returns-then-not-find_instr-clause-runs : goal.returns-then-not-find_instr-clause-runs
returns-then-not-find_instr-clause-runs g c =
    let source = g.I.Source in
    let sink = g.O.Sink in
    let m : Machine = record c.loop-k.m { pc = c.loop-k.pc } in
    let acts = acts_end m _ _ _ _ c.find_instr.new.end c.loop-k.invariant.runs.running (c.find_instr.ensures.ends c.if-not-find_instr.true) in
    let P : Machine → Type 0 = λ v. Runs c.args.fuel
    (configuration_of c.args.m.now (source.rest c.args.input.now) (source.faults c.args.input.now) (sink.written c.args.out.now) (sink.faults c.args.out.now))
    (configuration_of v (source.rest c.loop-k.input) (source.faults c.loop-k.input) (sink.written c.loop-k.out) (sink.faults c.loop-k.out)) in
    subst P (sym c.end_at.ensures) (runs_stop _ _ _ _ _ c.loop-k.invariant.runs acts c.loop-k-test.true refl)

pub returns-then-not-find_instr-clause-keeps : goal.returns-then-not-find_instr-clause-keeps
returns-then-not-find_instr-clause-keeps g c =
    let source = g.I.Source in
    let sink = g.O.Sink in
    let m : Machine = record c.loop-k.m { pc = c.loop-k.pc } in
    let P : Machine → Type 0 = λ v. Keeps
    (configuration_of c.args.m.now (source.rest c.args.input.now) (source.faults c.args.input.now) (sink.written c.args.out.now) (sink.faults c.args.out.now))
    (configuration_of v (source.rest c.loop-k.input) (source.faults c.loop-k.input) (sink.written c.loop-k.out) (sink.faults c.loop-k.out)) in
    subst P (sym c.end_at.ensures)
    (keeps_on _ _ _ c.loop-k.invariant.keeps (keeps_end m _ _ _ _ c.find_instr.new.end (c.find_instr.ensures.ends c.if-not-find_instr.true).fault))

pub returns-clause-steps : goal.returns-clause-steps
returns-clause-steps g c = λ s e h f.
    let all : c.loop-k.k ≡ c.args.fuel = omega arith in
    let runs = rw all at c.loop-k.invariant.runs in
    sym (executed_none c.args.fuel s (runs.first s e h))

pub returns-clause-runs : goal.returns-clause-runs
returns-clause-runs g c = let all : c.loop-k.k ≡ c.args.fuel = omega arith in runs_out c.args.fuel _ _ (rw all at c.loop-k.invariant.runs)
