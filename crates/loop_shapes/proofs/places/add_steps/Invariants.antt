use Rattle.std.proofs.Common.{take}
use Rattle.std.specs.List.{Contains}
use Rattle.loop_shapes.proofs.places.add_steps.Given as goal
use Rattle.loop_data.specs.Flows.{Added, rows}

abbrev pub invariant-loop-y : goal.invariant-loop-y
invariant-loop-y l = Added l.at l.from (Contains (take l.y-index l.steps)) (rows l.initial.before) (rows l.before)
