use Rattle.std.proofs.Common.{refl, arith}
use Rattle.induction.specs.Rows.{TellsClass}
use Rattle.induction.proofs.RowClasses.{root_first, root_all, row_more, least_carried}
use Rattle.induction.proofs.rows.root_row.Goals as goal

pub loop-r-init : goal.loop-r-init
loop-r-init c = root_first c.args.levels.now c.args.level.now c.args.words.now _ refl

pub loop-r-preserved : goal.loop-r-preserved
loop-r-preserved c = row_more (TellsClass c.args.levels.now c.args.level.now c.args.words.now) c.loop-r.row c.loop-r.r c.in-Ok.class (omega arith) c.loop-r.invariant c.in-Ok.ensures.ok

pub returns-clause-ok : goal.returns-clause-ok
returns-clause-ok c = root_all c.args.levels.now c.args.level.now c.args.words.now c.loop-r.row c.loop-r.r c.loop-r-test.false c.loop-r.invariant

pub returns-in-Err-clause-err : goal.returns-in-Err-clause-err
returns-in-Err-clause-err c = least_carried c.args.levels.now c.args.level.now c.args.words.now c.loop-r.row c.loop-r.r c.in-Err.loc (omega arith) (omega arith) c.loop-r.invariant c.in-Err.ensures.err
