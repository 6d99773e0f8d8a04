use Rattle.std.proofs.Common.{take}
use Rattle.loop_shapes.specs.Around.{IsSettled}
use Rattle.loop_shapes.proofs.around.settle.Given as goal

abbrev pub invariant-loop-x : goal.invariant-loop-x
invariant-loop-x l = IsSettled l.inner l.found (take l.x-index l.found) l.header l.initial.entries.items l.entries.items
