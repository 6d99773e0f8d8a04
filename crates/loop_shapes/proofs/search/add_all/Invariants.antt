use Rattle.std.proofs.Common.{take}
use Rattle.loop_shapes.specs.Search.{HasRoom}
use Rattle.loop_shapes.proofs.search.add_all.Given as goal

abbrev pub invariant-loop-x : goal.invariant-loop-x
invariant-loop-x l = HasRoom l.initial.found.items (take l.x-index l.more) l.found.items l.slots
