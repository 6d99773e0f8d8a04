use Rattle.std.proofs.Common.{ap, ◌∙◌}
use Rattle.rewrite_cli.specs.Texts.{report_of}
use Rattle.rewrite_cli.specs.Counts.{Tally}
use Rattle.rewrite_cli.proofs.Commands.{made_done, unmade_done}
use Rattle.rewrite_cli.proofs.making.make_file.Goals as goal

pub returns-in-Ok-clause-done : goal.returns-in-Ok-clause-done
returns-in-Ok-clause-done g c = λ input output.
    made_done c.args.kind c.args.size c.args.new.now c.as_slice-bytes.result.now _ _ input output
    c.save_and_reply.result.status _ c.save_and_reply.ensures.kind
    (c.save_and_reply.ensures.text ∙ ap (λ (counts : Tally). report_of counts c.save_and_reply.result.status)
    c.counts_from-counts.ensures)
    c.in-Ok.ensures.made.0 (c.as_slice-bytes.ensures.value ∙ c.in-Ok.ensures.made.1) c.save_and_reply.ensures.saved
    c.save_and_reply.ensures.stays c.save_and_reply.ensures.others c.save_and_reply.ensures.store_fault
    c.save_and_reply.ensures.failed_save

pub returns-in-Err-clause-done : goal.returns-in-Err-clause-done
returns-in-Err-clause-done g c = λ input output.
    unmade_done c.args.kind c.args.size c.args.new.now _ input output c.in-Err.status _ _
    c.reply_with.ensures.answer c.reply_with.ensures.text c.in-Err.ensures.kind c.in-Err.ensures.refused
