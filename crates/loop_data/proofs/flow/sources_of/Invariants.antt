use Rattle.loop_data.specs.Flows.{rows, HasSources}
use Rattle.loop_data.proofs.flow.sources_of.Given as goal

abbrev pub invariant-loop-from : goal.invariant-loop-from
invariant-loop-from l = HasSources l.graph l.levels l.body l.from (rows l.sources.items)
