use Rattle.std.proofs.Common.{ap, sym, ◌∙◌}
use Rattle.rewrite_cli.specs.Reading.{dump_shown}
use Rattle.rewrite_cli.proofs.Loaded.{others_of_dump}
use Rattle.rewrite_cli.proofs.dumping.save_memory.Goals as goal

pub returns-in-Some-clause-others : goal.returns-in-Some-clause-others
returns-in-Some-clause-others g c = λ m files.
    others_of_dump m _ _ _ _ _ _ (sym (ap dump_shown c.in-Some.is)
    ∙ c.in-Ok.ensures.value) (c.save_and_reply.ensures.others m files)
