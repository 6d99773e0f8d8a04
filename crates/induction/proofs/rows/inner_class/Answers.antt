use Rattle.std.proofs.Common.{sym}
use Rattle.induction.proofs.RowClasses.{writers_in, tells_step, tells_no_step}
use Rattle.induction.proofs.rows.inner_class.Goals as goal

pub returns-in-Some : goal.returns-in-Some
returns-in-Some c =
    let w = c.args.words.now in
    let a = writers_in w.flow _ c.args.r c.args.by c.requires.sized.instrs c.requires.writers in
    tells_step c.args.levels.now c.args.level.now w c.args.r c.requires.location c.args.by a c.in-Some.step (sym c.in-Some.ensures)

pub returns-in-None : goal.returns-in-None
returns-in-None c =
    let w = c.args.words.now in
    let a = writers_in w.flow _ c.args.r c.args.by c.requires.sized.instrs c.requires.writers in
    tells_no_step c.args.levels.now c.args.level.now w c.args.r c.requires.location c.args.by a (sym c.in-None.ensures)
