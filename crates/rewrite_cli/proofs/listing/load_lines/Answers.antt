use Rattle.rewrite_cli.specs.Effect.{ListsFile, load_limit}
use Rattle.rewrite_cli.proofs.Loaded.{too_long}
use Rattle.rewrite_cli.proofs.listing.load_lines.Goals as goal

pub returns-in-Err-clause-refused : goal.returns-in-Err-clause-refused
returns-in-Err-clause-refused g c = λ f m files xs. too_long load_limit (ListsFile xs) xs _ _
    (c.in-Err.ensures.refused f m files)
