use Rattle.loop_data.specs.Lookups.{cell_map}
use Rattle.induction.specs.Results.{AreInnerRows}
use Rattle.induction.proofs.nest.inner_classes.Given as goal

abbrev pub invariant-loop-level : goal.invariant-loop-level
invariant-loop-level l = AreInnerRows l.graph l.shape.levels (cell_map l.cells) l.level l.inner
