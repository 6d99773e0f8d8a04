use Rattle.std.proofs.Common.{subst, List, ℕ, ap, ◌∙◌}
use Rattle.std.specs.Prelude.{IfOk}
use Rattle.serial_run.specs.Serial.{start_of}
use Rattle.rewrite_cli.specs.Counts.{of_steps, tally_of}
use Rattle.rewrite_cli.specs.Outside.{stream}
use Rattle.rewrite_cli.specs.Runs.{View, HasRun, executable_view}
use Rattle.rewrite_cli.specs.Answer.{HasTally}
use Rattle.rewrite_cli.specs.declared.counts.Counts.{Counts}
use Rattle.rewrite_cli.proofs.Running.{told_tally}
use Rattle.rewrite_cli.proofs.Seen.{serial_seen, plain_view, port_as}
use Rattle.rewrite_cli.proofs.run.run_plain.Goals as goal

pub returns-clause-done : goal.returns-clause-done
returns-clause-done g c =
    let input = stream (g.I.Source.rest c.args.input.now) (g.I.Source.faults c.args.input.now) in
    let output = stream (g.O.Sink.written c.args.out.now) (g.O.Sink.faults c.args.out.now) in
    let read = stream (g.I.Source.rest c.run_counted-ran.new.input) (g.I.Source.faults c.run_counted-ran.new.input) in
    let written = stream (g.O.Sink.written c.run_counted-ran.new.out) (g.O.Sink.faults c.run_counted-ran.new.out) in
    let end = c.run_counted-ran.result.end in
    let plain = plain_view c.args.image.now c.requires.plain in
    let run = serial_seen c.output_only_grows.ensures c.args.image.now.elf c.args.fuel input read output written
    c.in-Ok.machine c.run_counted-ran.new.m end c.in-Ok.ensures c.run_counted-ran.ensures.runs
    c.run_counted-ran.ensures.end c.run_counted-ran.ensures.keeps.read_fault c.run_counted-ran.ensures.keeps.write_fault in
    let tally = told_tally c.of_steps-counts.result c.args.fuel (executable_view c.args.image.now.elf) input end
    (of_steps c.run_counted-ran.result.steps) c.of_steps-counts.ensures
    (λ xs told clean. ap of_steps
    (c.run_counted-ran.ensures.steps (start_of c.args.image.now.elf xs) c.in-Ok.ensures (λ i l n h. told)
    (port_as c.run_counted-ran.new.m.ended end c.run_counted-ran.ensures.end ∙ clean))) in
    c.reply_of_run.ensures.done c.args.image.now c.args.fuel input read output written
    (subst (λ (view : List ℕ → ℕ → View). HasRun c.args.fuel view input read output written end c.run_counted-ran.new.m.memory)
    plain run)
    (subst (λ (view : List ℕ → ℕ → View). IfOk c.of_steps-counts.result
    (λ (counts : Counts). HasTally c.args.fuel view input end (tally_of counts))) plain tally)
