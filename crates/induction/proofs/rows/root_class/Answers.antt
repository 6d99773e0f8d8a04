use Rattle.std.proofs.Common.{length, subst}
use Rattle.induction.specs.Writers.{AreWriters}
use Rattle.induction.specs.declared.writers.Writers.TheVariants.{Nowhere}
use Rattle.induction.proofs.RowClasses.{writers_in, tells_none}
use Rattle.induction.proofs.rows.root_class.Goals as goal

pub returns-in-Nowhere-clause-ok : goal.returns-in-Nowhere-clause-ok
returns-in-Nowhere-clause-ok c =
    let w = c.args.words.now in
    let a = writers_in w.flow _ c.args.r Nowhere c.requires.sized.instrs (subst (AreWriters w.flow (length w.flow.instrs.items) c.args.r) c.in-Nowhere.is c.requires.writers) in
    tells_none c.args.levels.now c.args.level.now w c.args.r c.requires.location a
