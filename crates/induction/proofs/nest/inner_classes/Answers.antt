use Rattle.std.proofs.Common.{List, length, ap, refl, arith}
use Rattle.loop_data.specs.declared.shape.Level.{Level}
use Rattle.loop_data.specs.Lookups.{cell_map}
use Rattle.induction.proofs.NestClasses.{few_levels, rows_none, rows_more_at}
use Rattle.induction.proofs.nest.inner_classes.Goals as goal

pub loop-level-init : goal.loop-level-init
loop-level-init c = rows_none c.args.graph.now c.args.shape.now.levels (cell_map c.args.cells.now) _ refl

pub loop-level-preserved : goal.loop-level-preserved
loop-level-preserved c =
    let few = few_levels c.args.graph.now c.args.shape.now.levels c.requires.nest in
    let most = few.0 in
    let n = ap (λ (ls : List Level). length ls) c.as_slice-level-end.ensures in
    rows_more_at c.args.graph.now c.args.shape.now.levels (cell_map c.args.cells.now) c.loop-level.inner c.loop-level.level c.in_ok-inner.field-0 (omega arith) (omega arith) c.loop-level.invariant c.in_ok-inner.ensures
