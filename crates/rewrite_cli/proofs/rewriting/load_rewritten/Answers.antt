use Rattle.std.proofs.Common.{Ok, refl, subst, List, ℕ}
use Rattle.rewriter.specs.Rewriting.{IsRewriting}
use Rattle.rewrite_cli.specs.Effect.{RewritesFile, image_saved, load_limit}
use Rattle.rewrite_cli.proofs.Loaded.{loaded, too_long}
use Rattle.rewrite_cli.proofs.rewriting.load_rewritten.Goals as goal

pub returns-in-Ok-image_of-clause-made : goal.returns-in-Ok-image_of-clause-made
returns-in-Ok-image_of-clause-made g c = λ m files new xs.
    loaded load_limit (RewritesFile new xs) xs _ _ (image_saved new xs c.in-Ok-image_of.made) (c.in-Ok.ensures.bytes m files)
    c.in-Ok.ensures.within
    (record {
      rewriting = Ok c.in-Ok-image_of.made;
      is = subst (λ (v : List ℕ). IsRewriting v (Ok c.in-Ok-image_of.made)) c.as_slice.ensures.value
          c.in-Ok-image_of.ensures.made;
      found = λ e. cc;
      does = refl;
    })

pub returns-clause-refused : goal.returns-clause-refused
returns-clause-refused g c = λ f m files new xs.
    too_long load_limit (RewritesFile new xs) xs _ _ (c.in-Err.ensures.refused f m files)
