use Rattle.loop_choice.proofs.Outcomes.{few_are}
use Rattle.loop_choice.proofs.nest.with_forms.Goals as goal

pub accesses-requires-clause-few : goal.accesses-requires-clause-few
accesses-requires-clause-few c =
    few_are c.args.graph.now c.args.shape.now.levels c.args.cells c.args.classes c.args.equations.now
    c.cells_are_limited.ensures.few c.requires.nest c.requires.confirmed
