use Rattle.std.proofs.Common.{take}
use Rattle.loop_shapes.specs.Reach.{Extended}
use Rattle.loop_shapes.proofs.reach.reach_all.Given as goal

abbrev pub invariant-loop-y : goal.invariant-loop-y
invariant-loop-y l = Extended l.set (take l.y-index l.ys) l.initial.reached.items l.reached.items
