use Rattle.std.proofs.lemmas.Result.{on_ok_weaker}
use Rattle.loop_data.specs.Flows.{rows}
use Rattle.loop_data.proofs.FlowRows.{sources_more}
use Rattle.loop_data.proofs.flow.add_word.Goals as goal

pub returns : goal.returns
returns c =
    on_ok_weaker c.add_steps.result (sources_more c.args.graph.now c.args.levels.now c.args.body.now c.args.from c.steps_next.result.now (rows c.args.sources.now) (rows c.add_steps.new.sources) c.requires.within c.steps_next.ensures c.requires.below) c.add_steps.ensures
