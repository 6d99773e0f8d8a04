use Rattle.std.proofs.Common.{sym, subst, refl}
use Rattle.induction.specs.Rows.{IsCarriedAt}
use Rattle.induction.proofs.RowClasses.{tells_moves, tells_private, is_carried}
use Rattle.induction.proofs.rows.written_class.Goals as goal

pub returns-in-Some-clause-ok : goal.returns-in-Some-clause-ok
returns-in-Some-clause-ok c = tells_moves c.args.levels.now c.args.level.now c.args.words.now c.args.r c.requires.location c.args.by c.requires.writers c.in-Some.step (sym c.in-Some.ensures)

pub returns-then-is_private-clause-ok : goal.returns-then-is_private-clause-ok
returns-then-is_private-clause-ok c = tells_private c.args.levels.now c.args.level.now c.args.words.now c.args.r c.requires.location c.args.by c.requires.writers c.requires.some (sym c.in-None.ensures) (c.if-is_private.ensures.yes refl)

pub returns-else-is_private-clause-err : goal.returns-else-is_private-clause-err
returns-else-is_private-clause-err c = subst (IsCarriedAt c.args.levels.now c.args.level.now c.args.words.now c.args.r) (sym c.location.ensures) (is_carried c.args.levels.now c.args.level.now c.args.words.now c.args.r c.requires.location c.args.by c.requires.writers c.requires.some (sym c.in-None.ensures) (c.if-is_private.ensures.no refl))
