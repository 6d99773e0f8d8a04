use Rattle.std.proofs.Common.{◌∙◌}
use Rattle.std.proofs.lemmas.List.{length-map}
use Rattle.std.proofs.lemmas.Result.{on_ok_weaker}
use Rattle.loop_shapes.proofs.Rows.{added_at, added_nowhere}
use Rattle.loop_shapes.proofs.places.add_step.Goals as goal
use Rattle.loop_data.specs.Flows.{items_of, rows}

pub returns-in-Some : goal.returns-in-Some
returns-in-Some c =
    let n = length-map c.args.before.now items_of in
    let f = c.in-Some.ensures.found in
    on_ok_weaker c.add.result (added_at c.args.at.now c.requires.ordered (rows c.args.before.now) (n ∙ c.requires.count) c.in-Some.to c.args.from c.args.y f.0 f.1 (rows c.add.new.before)) c.add.ensures.ok

pub returns-in-None : goal.returns-in-None
returns-in-None c = added_nowhere c.args.at.now (rows c.args.before.now) c.args.from c.args.y c.in-None.ensures.none
