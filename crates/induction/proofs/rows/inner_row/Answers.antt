use Rattle.std.proofs.Common.{refl, arith}
use Rattle.induction.specs.Rows.{TellsInner}
use Rattle.induction.proofs.RowClasses.{inner_first, inner_all, row_more}
use Rattle.induction.proofs.rows.inner_row.Goals as goal

pub loop-r-init : goal.loop-r-init
loop-r-init c = inner_first c.args.levels.now c.args.level.now c.args.words.now _ refl

pub loop-r-preserved : goal.loop-r-preserved
loop-r-preserved c = row_more (TellsInner c.args.levels.now c.args.level.now c.args.words.now) c.loop-r.row c.loop-r.r c.inner_class.result (omega arith) c.loop-r.invariant c.inner_class.ensures

pub returns : goal.returns
returns c = inner_all c.args.levels.now c.args.level.now c.args.words.now c.loop-r.row c.loop-r.r c.loop-r-test.false c.loop-r.invariant
