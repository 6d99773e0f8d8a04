use Rattle.loop_data.specs.Lookups.{cell_map}
use Rattle.induction.proofs.NestClasses.{classes_are}
use Rattle.induction.proofs.nest.classes.Goals as goal

pub returns-in-Ok-inner_classes-clause-ok : goal.returns-in-Ok-inner_classes-clause-ok
returns-in-Ok-inner_classes-clause-ok c = classes_are c.args.graph.now c.args.shape.now.levels (cell_map c.args.cells.now) _ c.requires.nest c.in-Ok.ensures.ok c.in-Ok-inner_classes.ensures
