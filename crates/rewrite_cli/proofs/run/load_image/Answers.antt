use Rattle.rewrite_cli.specs.Effect.{RunsFile, load_limit}
use Rattle.rewrite_cli.proofs.Loaded.{too_long}
use Rattle.rewrite_cli.proofs.run.load_image.Goals as goal

pub returns-in-Err-clause-refused : goal.returns-in-Err-clause-refused
returns-in-Err-clause-refused g c = λ f m files fuel dump xs. too_long load_limit (RunsFile fuel dump xs) xs _ _
    (c.in-Err.ensures.refused f m files)
