use Rattle.std.proofs.Common.{take}
use Rattle.loop_shapes.specs.Open.{IsCut}
use Rattle.loop_shapes.proofs.open.cut_all.Given as goal

abbrev pub invariant-loop-place : goal.invariant-loop-place
invariant-loop-place l = IsCut l.to (take l.place-index l.from) l.initial.nodes.items l.nodes.items
