use Rattle.std.proofs.Common.{Some, []}
use Rattle.std.specs.Option.{option_copied}
use Rattle.rewrite_cli.specs.Words.{Run}
use Rattle.rewrite_cli.specs.Outside.{stored}
use Rattle.rewrite_cli.proofs.Done.{refused_done}
use Rattle.rewrite_cli.proofs.Commands.{run_done, lacks_first, run_answers, kept_late}
use Rattle.rewrite_cli.proofs.Original.{runs_as}
use Rattle.rewrite_cli.proofs.run.run_file.Goals as goal

pub returns-then-is_empty-clause-done : goal.returns-then-is_empty-clause-done
returns-then-is_empty-clause-done g c =
    run_done c.args.file.now c.args.fuel (option_copied c.args.dump) c.in-Ok.image _
    (stored (g.S.Store.files c.load_image.new.store) (g.S.Store.faults c.load_image.new.store)
    (g.S.Store.failed_saves c.load_image.new.store)) _ _ _ _ _ _ _
    c.in-Ok.ensures.same c.in-Ok.ensures.never_falls c.in-Ok.ensures.no_save c.in-Ok.ensures.accepted
    (runs_as
    (record {
      first = c.first_ending.ensures.only;
      stops = c.ended_law.ensures;
      step = c.one_hart_runs_the_executable.ensures.steps;
      plain = c.there_is_one_walk.ensures.plain;
      end = c.one_hart_counts_the_walk.ensures.end;
    }) c.args.fuel (option_copied c.args.dump) c.in-Ok.image c.in-Ok.ensures.divided)
    c.run_plain.ensures.done

pub returns-else-is_empty-clause-done : goal.returns-else-is_empty-clause-done
returns-else-is_empty-clause-done g c =
    run_done c.args.file.now c.args.fuel (option_copied c.args.dump) c.in-Ok.image _
    (stored (g.S.Store.files c.load_image.new.store) (g.S.Store.faults c.load_image.new.store)
    (g.S.Store.failed_saves c.load_image.new.store)) _ _ _ _ _ _ _
    c.in-Ok.ensures.same c.in-Ok.ensures.never_falls c.in-Ok.ensures.no_save c.in-Ok.ensures.accepted
    (runs_as
    (record {
      first = c.first_ending.ensures.only;
      stops = c.ended_law.ensures;
      step = c.one_hart_runs_the_executable.ensures.steps;
      plain = c.there_is_one_walk.ensures.plain;
      end = c.one_hart_counts_the_walk.ensures.end;
    }) c.args.fuel (option_copied c.args.dump) c.in-Ok.image c.in-Ok.ensures.divided)
    c.run_divided.ensures.done

pub returns-then-is_empty-clause-not_started : goal.returns-then-is_empty-clause-not_started
returns-then-is_empty-clause-not_started g c = λ m files none.
    absurd (none c.in-Ok.image (c.in-Ok.ensures.accepted m files))

pub returns-else-is_empty-clause-not_started : goal.returns-else-is_empty-clause-not_started
returns-else-is_empty-clause-not_started g c = λ m files none.
    absurd (none c.in-Ok.image (c.in-Ok.ensures.accepted m files))

pub returns-in-Err-clause-done : goal.returns-in-Err-clause-done
returns-in-Err-clause-done g c =
    refused_done (Some (Run c.args.file.now c.args.fuel (option_copied c.args.dump))) _ _ _ _ c.in-Err.status _ _
    c.reply_with.ensures.answer c.reply_with.ensures.text c.in-Err.ensures.kind
    (λ e. lacks_first _ _ _ _ (c.in-Err.ensures.failed e)) c.in-Err.ensures.same (λ e. cc)
    (λ f m files xs. c.in-Err.ensures.refused f m files c.args.fuel (option_copied c.args.dump) xs)

pub returns-in-Err-clause-started : goal.returns-in-Err-clause-started
returns-in-Err-clause-started g c = λ m image files holds.
    kept_late c.in-Err.status _ c.reply_with.ensures.answer
    (λ f. run_answers c.one_admission.ensures _ image c.args.fuel (option_copied c.args.dump) [] c.in-Err.status holds
    (c.in-Err.ensures.refused f m files c.args.fuel (option_copied c.args.dump) []))
