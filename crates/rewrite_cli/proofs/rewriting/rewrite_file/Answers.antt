use Rattle.std.proofs.Common.{ap, ◌∙◌, Some}
use Rattle.rewrite_cli.specs.Words.{Rewrite}
use Rattle.rewrite_cli.specs.Texts.{report_of}
use Rattle.rewrite_cli.specs.Counts.{Tally}
use Rattle.rewrite_cli.proofs.Done.{refused_done}
use Rattle.rewrite_cli.proofs.Commands.{rewritten_done, lacks_first}
use Rattle.rewrite_cli.proofs.rewriting.rewrite_file.Goals as goal

pub returns-in-Ok-clause-done : goal.returns-in-Ok-clause-done
returns-in-Ok-clause-done g c = λ input output.
    rewritten_done c.args.file.now c.args.new.now c.as_slice-image.result.now _
    (record {
      files = g.S.Store.files c.load_rewritten.new.store;
      faults = g.S.Store.faults
          c.load_rewritten.new.store;
      failed_saves = g.S.Store.failed_saves c.load_rewritten.new.store;
    }) _ input output
    c.save_and_reply.result.status _ c.in-Ok.made c.save_and_reply.ensures.kind
    (c.save_and_reply.ensures.text ∙ ap (λ (counts : Tally). report_of counts c.save_and_reply.result.status)
    c.counts_from-counts.ensures)
    c.in-Ok.ensures.same c.in-Ok.ensures.never_falls c.in-Ok.ensures.no_save c.as_slice-image.ensures
    c.in-Ok.ensures.made
    c.save_and_reply.ensures.saved c.save_and_reply.ensures.stays c.save_and_reply.ensures.others
    c.save_and_reply.ensures.store_fault c.save_and_reply.ensures.failed_save

pub returns-in-Err-clause-done : goal.returns-in-Err-clause-done
returns-in-Err-clause-done g c = λ input output.
    refused_done (Some (Rewrite c.args.file.now c.args.new.now)) _ _ input output c.in-Err.status _ _
    c.reply_with.ensures.answer c.reply_with.ensures.text c.in-Err.ensures.kind
    (λ e. lacks_first _ _ _ _ (c.in-Err.ensures.failed e)) c.in-Err.ensures.same (λ e. cc)
    (λ f m files xs. c.in-Err.ensures.refused f m files c.args.new.now xs)
