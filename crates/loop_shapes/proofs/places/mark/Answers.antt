use Rattle.loop_shapes.proofs.Rows.{marked_at, marked_nowhere}
use Rattle.loop_shapes.proofs.places.mark.Goals as goal

pub returns-in-Some : goal.returns-in-Some
returns-in-Some c =
    let f = c.in-Some.ensures.found in
    marked_at c.args.at.now c.requires.ordered c.args.flags.now c.requires.count c.in-Some.i c.args.x f.0 f.1

pub returns-in_default : goal.returns-in_default
returns-in_default c = marked_nowhere c.args.at.now c.args.flags.now c.args.x c.in_default.ensures.none
