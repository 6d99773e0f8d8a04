use Rattle.std.proofs.Common.{◌≡◌, ◌∙◌, false, get_or, sym}
use Rattle.std.proofs.lemmas.List.{length-map}
use Rattle.std.proofs.lemmas.Result.{on_ok_weaker}
use Rattle.loop_data.specs.Flows.{rows, items_of, closes_one}
use Rattle.loop_data.proofs.FlowRows.{added_at}
use Rattle.loop_data.proofs.flow.add_step.Goals as goal

pub returns-in-Some : goal.returns-in-Some
returns-in-Some c =
    let n = length-map c.args.sources.now items_of in
    let f = c.in-Some.ensures.found in
    let u = get_or c.args.body.now c.args.from 0 in
    on_ok_weaker c.add.result (added_at c.args.body.now (λ v. closes_one c.args.levels.now u v ≡ false) c.requires.ordered (rows c.args.sources.now) (n ∙ c.requires.count) c.in-Some.to c.args.from c.args.y f.0 f.1 (sym c.if-closes.ensures) (rows c.add.new.sources)) c.add.ensures.ok
