use Rattle.std.proofs.Common.{Some}
use Rattle.std.specs.Prelude.{string_bytes}
use Rattle.rewrite_cli.specs.Words.{Loops}
use Rattle.rewrite_cli.proofs.Done.{refused_done}
use Rattle.rewrite_cli.proofs.Commands.{listed_done, cut_list_done, lacks_first}
use Rattle.rewrite_cli.proofs.listing.list_file.Goals as goal

pub returns-in-Ok-write_all-clause-done : goal.returns-in-Ok-write_all-clause-done
returns-in-Ok-write_all-clause-done g c = λ input.
    listed_done c.args.file.now (string_bytes c.in-Ok.text) _ _ input _ _ _ _ c.done.ensures.status
    c.done.ensures.text c.in-Ok.ensures.same c.in-Ok.ensures.made
    (λ ys h. rw (← c.as_bytes.ensures.value) (c.in-Ok-write_all.ensures.written ys h))

pub returns-in-Ok-write_all-clause-unwritten : goal.returns-in-Ok-write_all-clause-unwritten
returns-in-Ok-write_all-clause-unwritten g c = λ m files none. absurd
    (none (string_bytes c.in-Ok.text) (c.in-Ok.ensures.made m files))

pub returns-in-Ok-clause-done : goal.returns-in-Ok-clause-done
returns-in-Ok-clause-done g c = λ input.
    cut_list_done c.args.file.now (string_bytes c.in-Ok.text) _ _ input _ _ _ _ c.from_outside.ensures.status
    c.from_outside.ensures.text c.in-Ok.ensures.same c.in-Ok.ensures.made
    (λ ys h. rw (← c.as_bytes.ensures.value) (c.in-Err-write_all.ensures.prefix ys h)) c.in-Err-write_all.ensures.failed

pub returns-in-Ok-clause-unwritten : goal.returns-in-Ok-clause-unwritten
returns-in-Ok-clause-unwritten g c = λ m files none. absurd
    (none (string_bytes c.in-Ok.text) (c.in-Ok.ensures.made m files))

pub returns-clause-done : goal.returns-clause-done
returns-clause-done g c = λ input.
    refused_done (Some (Loops c.args.file.now)) _ _ input _ c.in-Err.status _ _ c.reply_with.ensures.answer
    c.reply_with.ensures.text c.in-Err.ensures.kind
    (λ e. lacks_first _ _ _ _ (c.in-Err.ensures.failed e)) c.in-Err.ensures.same (λ e. cc)
    (λ f m files xs. c.in-Err.ensures.refused f m files xs)
