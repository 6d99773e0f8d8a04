use Rattle.loop_data.specs.Flows.{rows, IsMarked, IsSweep}
use Rattle.loop_data.proofs.flow.sweep.Given as goal

abbrev pub invariant-loop-p : goal.invariant-loop-p
invariant-loop-p l = IsMarked (rows l.sources) l.flags.items l.order.items × IsSweep (rows l.sources) l.p l.initial.flags.items l.flags.items l.whole
