use Rattle.rewrite_cli.proofs.Loaded.{saved_one, others_of_saved}
use Rattle.rewrite_cli.proofs.saving.save_and_reply.Goals as goal

pub returns-in-Ok-clause-saved : goal.returns-in-Ok-clause-saved
returns-in-Ok-clause-saved g c = λ m files e. saved_one m _ _ _ (c.in-Ok.ensures.saved m files)

pub returns-in-Ok-clause-others : goal.returns-in-Ok-clause-others
returns-in-Ok-clause-others g c = λ m files. others_of_saved m _ _ _ (c.in-Ok.ensures.saved m files)
