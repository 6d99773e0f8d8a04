use Rattle.std.proofs.Common.{◌≡◌, false, get_or, subst, List, ℕ}
use Rattle.std.specs.List.{Contains}
use Rattle.std.proofs.lemmas.List.{take_all}
use Rattle.loop_data.specs.Flows.{rows, closes_one, Added}
use Rattle.loop_data.proofs.FlowRows.{added_more}
use Rattle.loop_data.proofs.flow.add_steps.Goals as goal

pub loop-y-preserved : goal.loop-y-preserved
loop-y-preserved c =
    let u = get_or c.args.body.now c.args.from 0 in
    added_more c.args.body.now c.args.steps.now (λ v. closes_one c.args.levels.now u v ≡ false) c.args.from c.loop-y.y-index (rows c.args.sources.now) (rows c.loop-y.sources) (rows c.add_step.new.sources) c.loop-y-test.true c.loop-y.invariant c.in_ok-add_step.ensures

pub returns : goal.returns
returns c =
    let u = get_or c.args.body.now c.args.from 0 in
    subst (λ (q : List ℕ). Added c.args.body.now c.args.from (λ v. Contains q v × (closes_one c.args.levels.now u v ≡ false)) (rows c.args.sources.now) (rows c.loop-y.sources)) (take_all c.loop-y.y-index c.args.steps.now c.loop-y-test.false) c.loop-y.invariant
