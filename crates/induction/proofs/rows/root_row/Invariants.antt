use Rattle.induction.specs.Rows.{TellsClass}
use Rattle.induction.proofs.RowClasses.{IsRowTo}
use Rattle.induction.proofs.rows.root_row.Given as goal

abbrev pub invariant-loop-r : goal.invariant-loop-r
invariant-loop-r l = IsRowTo (TellsClass l.levels l.level l.words) l.row l.r
