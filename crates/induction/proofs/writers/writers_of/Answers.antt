use Rattle.std.proofs.Common.{◌+◌, get_or, refl, sym, subst}
use Rattle.induction.specs.Masks.{place_writes}
use Rattle.induction.specs.Writers.{AreWriters}
use Rattle.induction.specs.declared.writers.Writers.TheVariants.{Nowhere}
use Rattle.induction.proofs.PlaceWriters.{no_writers, writers_more}
use Rattle.induction.proofs.writers.writers_of.Goals as goal

pub loop-p-init : goal.loop-p-init
loop-p-init c r l = no_writers c.args.flow.now r

pub loop-p-preserved : goal.loop-p-preserved
loop-p-preserved c r l =
    let f = c.args.flow.now in
    let p = c.loop-p.p in
    subst (AreWriters f (p + 1) r) (sym (c.add_word.ensures r l)) (writers_more f p r (get_or c.loop-p.writers r Nowhere) (place_writes f p r) (c.loop-p.invariant r l) refl)
