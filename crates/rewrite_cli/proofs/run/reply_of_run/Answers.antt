use Rattle.std.proofs.Common.{inl, inr, refl, sym, ap, ◌∙◌}
use Rattle.std.specs.Option.{option_copied}
use Rattle.rewrite_cli.specs.Counts.{OfNothing, tally_of}
use Rattle.rewrite_cli.specs.Runs.{view_of}
use Rattle.rewrite_cli.specs.Answer.{HasTally}
use Rattle.rewrite_cli.specs.Texts.{report_of}
use Rattle.rewrite_cli.specs.declared.status.Status.{Status}
use Rattle.rewrite_cli.proofs.Running.{fault_runs, ended_runs, wanting_runs, inside_end, ok_tally}
use Rattle.rewrite_cli.proofs.run.reply_of_run.Goals as goal

pub returns-in-ReadFault-clause-done : goal.returns-in-ReadFault-clause-done
returns-in-ReadFault-clause-done g c = λ image fuel input read output written run counted.
    fault_runs image fuel (option_copied c.args.dump) _ _ input read output written c.args.end c.args.memory.now
    c.from_outside.result.status _ run refl (inl (c.from_outside.ensures.status, c.in-ReadFault.is))
    (c.from_outside.ensures.text ∙ ap (λ (v : Status). report_of OfNothing v) (sym c.from_outside.ensures.status))

pub returns-in-WriteFault-clause-done : goal.returns-in-WriteFault-clause-done
returns-in-WriteFault-clause-done g c = λ image fuel input read output written run counted.
    fault_runs image fuel (option_copied c.args.dump) _ _ input read output written c.args.end c.args.memory.now
    c.from_outside-in-WriteFault.result.status _ run refl
    (inr (c.from_outside-in-WriteFault.ensures.status, c.in-WriteFault.is))
    (c.from_outside-in-WriteFault.ensures.text
    ∙ ap (λ (v : Status). report_of OfNothing v) (sym c.from_outside-in-WriteFault.ensures.status))

pub returns-in-Ok-clause-done : goal.returns-in-Ok-clause-done
returns-in-Ok-clause-done g c = λ image fuel input read output written run counted.
    ended_runs image fuel (option_copied c.args.dump) _ _ input read output written c.args.end c.args.memory.now
    (tally_of c.in-Ok.counts) c.save_memory.result.status _ run (ok_tally c.args.counts c.in-Ok.counts
    (HasTally fuel (view_of image) input c.args.end) c.in-Ok.is counted)
    (inside_end c.args.end c.in_default.not-ReadFault c.in_default.not-WriteFault)
    (rw c.status_from.ensures at c.save_memory.ensures.kind) c.save_memory.ensures.text
    (rw c.status_from.ensures at c.save_memory.ensures.saved)
    (rw c.status_from.ensures at c.save_memory.ensures.stays) c.save_memory.ensures.others
    c.save_memory.ensures.store_fault c.save_memory.ensures.failed_save

pub returns-in-Err-clause-done : goal.returns-in-Err-clause-done
returns-in-Err-clause-done g c = λ image fuel input read output written run counted.
    wanting_runs image fuel (option_copied c.args.dump) _ _ input read output written c.args.end c.args.memory.now
    c.from_outside-in-Err.result.status _ run
    (inside_end c.args.end c.in_default.not-ReadFault c.in_default.not-WriteFault) refl
    c.from_outside-in-Err.ensures.status
    (c.from_outside-in-Err.ensures.text
    ∙ ap (λ (v : Status). report_of OfNothing v) (sym c.from_outside-in-Err.ensures.status))
