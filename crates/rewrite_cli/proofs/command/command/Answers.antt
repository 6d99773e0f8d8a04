use Rattle.std.proofs.Common.{sym, subst, Option, map, string_bytes}
use Rattle.rewrite_cli.specs.Effect.{StartsRun}
use Rattle.rewrite_cli.specs.Reading.{text_of}
use Rattle.rewrite_cli.specs.Words.{Command}
use Rattle.rewrite_cli.proofs.Forms.{sized}
use Rattle.rewrite_cli.proofs.Done.{kept_given, same_given, late_given, alone_given}
use Rattle.rewrite_cli.proofs.command.command.Goals as goal

pub perform-reply-requires : goal.perform-reply-requires
perform-reply-requires g c = rw c.command_from-command.ensures (sized (map string_bytes c.args.words.now))

pub returns-clause-answered : goal.returns-clause-answered
returns-clause-answered g c =
    record {
      answer = c.perform-reply.result.status;
      text = text_of c.perform-reply.result;
      is_done = rw (← c.command_from-command.ensures) c.perform-reply.ensures.done;
      is_given = c.give.ensures;
    }

pub returns-clause-kept : goal.returns-clause-kept
returns-clause-kept g c = kept_given _ _ _ _ _ _ c.give.ensures c.perform-reply.ensures.kept

pub returns-clause-wanting : goal.returns-clause-wanting
returns-clause-wanting g c = λ e few.
    same_given _ _ _ _ _ _ _ c.give.ensures c.perform-reply.ensures.wanting (λ v. cc) e

pub returns-clause-untouched : goal.returns-clause-untouched
returns-clause-untouched g c =
    alone_given _ _ _ _ _ _ _ _ _ _ _ _ _ _ c.give.ensures
    (rw (← c.command_from-command.ensures) c.perform-reply.ensures.untouched)

pub returns-clause-started : goal.returns-clause-started
returns-clause-started g c = λ m files starts.
    late_given _ _ _ _ _ c.give.ensures
    (c.perform-reply.ensures.started m files
    (subst (λ (v : Option Command). StartsRun v m) (sym c.command_from-command.ensures) starts))
