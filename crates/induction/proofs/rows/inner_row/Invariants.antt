use Rattle.induction.specs.Rows.{TellsInner}
use Rattle.induction.proofs.RowClasses.{IsRowTo}
use Rattle.induction.proofs.rows.inner_row.Given as goal

abbrev pub invariant-loop-r : goal.invariant-loop-r
invariant-loop-r l = IsRowTo (TellsInner l.levels l.level l.words) l.row l.r
