use Rattle.std.proofs.Common.{subst, List, ℕ, map, ap}
use Rattle.std.specs.Prelude.{IfOk}
use Rattle.hart_core.specs.Counting.{events_of, steps_of}
use Rattle.hart_core.specs.Machine.{Core}
use Rattle.rewrite_cli.specs.Counts.{OfRun, tally_of}
use Rattle.rewrite_cli.specs.Outside.{stream}
use Rattle.rewrite_cli.specs.Runs.{View, HasRun, image_view}
use Rattle.rewrite_cli.specs.Answer.{HasTally}
use Rattle.rewrite_cli.specs.declared.counts.Counts.{Counts}
use Rattle.rewrite_cli.proofs.Running.{told_tally}
use Rattle.rewrite_cli.proofs.Seen.{harts_seen, divided_view, core_is}
use Rattle.rewrite_cli.proofs.run.run_divided.Goals as goal

pub returns-clause-done : goal.returns-clause-done
returns-clause-done g c =
    let input = stream (g.I.Source.rest c.args.input.now) (g.I.Source.faults c.args.input.now) in
    let output = stream (g.O.Sink.written c.args.out.now) (g.O.Sink.faults c.args.out.now) in
    let read = stream (g.I.Source.rest c.run_first-end.new.input) (g.I.Source.faults c.run_first-end.new.input) in
    let written = stream (g.O.Sink.written c.run_first-end.new.out) (g.O.Sink.faults c.run_first-end.new.out) in
    let end = c.run_first-end.result in
    let core = c.run_first-end.new.self in
    let by = divided_view c.args.image c.requires.divided in
    let run = harts_seen c.growth_law.ensures c.args.image c.args.fuel input read output written c.in-Ok.harts core end
    c.in-Ok.ensures c.run_first-end.ensures.runs c.run_first-end.ensures.end c.run_first-end.ensures.keeps.read_fault
    c.run_first-end.ensures.keeps.write_fault in
    let tally = told_tally c.counts_in-counts.result c.args.fuel (image_view c.args.image) input end
    (OfRun core.loops (map events_of core.harts) (steps_of core.harts)) c.counts_in-counts.ensures
    (λ xs told clean.
    ap (λ (v : Core). OfRun v.loops (map events_of v.harts) (steps_of v.harts))
    (core_is c.growth_law.ensures c.args.image c.args.fuel input read output written c.in-Ok.harts core end c.in-Ok.ensures
    c.run_first-end.ensures.runs c.run_first-end.ensures.end xs told clean)) in
    c.reply_of_run.ensures.done c.args.image c.args.fuel input read output written
    (subst (λ (view : List ℕ → ℕ → View). HasRun c.args.fuel view input read output written end c.memory.result.now) by
    (rw c.memory.ensures run))
    (subst (λ (view : List ℕ → ℕ → View). IfOk c.counts_in-counts.result
    (λ (counts : Counts). HasTally c.args.fuel view input end (tally_of counts))) by tally)
