use Rattle.std.proofs.Common.{refl, None}
use Rattle.rewrite_cli.specs.declared.status.Status.TheVariants.{Usage}
use Rattle.rewrite_cli.specs.Outside.{stream}
use Rattle.rewrite_cli.proofs.Done.{plain_done}
use Rattle.rewrite_cli.proofs.command.perform.Goals as goal

pub returns-in-Unknown-clause-done : goal.returns-in-Unknown-clause-done
returns-in-Unknown-clause-done g c =
    rw c.in-Unknown.is
    (plain_done None _ _ _ Usage _ _ c.reply_with.ensures.answer c.reply_with.ensures.text refl (λ e. cc)
    (λ f m xs. refl))

pub returns-in-Loops-clause-done : goal.returns-in-Loops-clause-done
returns-in-Loops-clause-done g c =
    rw c.in-Loops.is
    (c.list_file.ensures.done (stream (g.I.Source.rest c.args.input.now) (g.I.Source.faults c.args.input.now)))

pub returns-in-Rewrite-clause-done : goal.returns-in-Rewrite-clause-done
returns-in-Rewrite-clause-done g c =
    rw c.in-Rewrite.is
    (c.rewrite_file.ensures.done (stream (g.I.Source.rest c.args.input.now) (g.I.Source.faults c.args.input.now))
    (stream (g.O.Sink.written c.args.out.now) (g.O.Sink.faults c.args.out.now)))

pub returns-in-Make-clause-done : goal.returns-in-Make-clause-done
returns-in-Make-clause-done g c =
    rw c.in-Make.is
    (c.make_file.ensures.done (stream (g.I.Source.rest c.args.input.now) (g.I.Source.faults c.args.input.now))
    (stream (g.O.Sink.written c.args.out.now) (g.O.Sink.faults c.args.out.now)))

pub returns-in-Run-clause-done : goal.returns-in-Run-clause-done
returns-in-Run-clause-done g c = rw c.in-Run.is c.run_file.ensures.done

pub returns-in-Run-clause-started : goal.returns-in-Run-clause-started
returns-in-Run-clause-started g c =
    rw c.in-Run.is (λ m files starts. c.run_file.ensures.started m starts.0 files starts.1)
