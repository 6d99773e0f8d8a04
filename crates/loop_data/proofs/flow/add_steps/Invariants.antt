use Rattle.std.proofs.Common.{◌≡◌, take, get_or, false}
use Rattle.std.specs.List.{Contains}
use Rattle.loop_data.specs.Flows.{rows, closes_one, Added}
use Rattle.loop_data.proofs.flow.add_steps.Given as goal

abbrev pub invariant-loop-y : goal.invariant-loop-y
invariant-loop-y l = Added l.body l.from (λ v. Contains (take l.y-index l.steps) v × (closes_one l.levels (get_or l.body l.from 0) v ≡ false)) (rows l.initial.sources) (rows l.sources)
