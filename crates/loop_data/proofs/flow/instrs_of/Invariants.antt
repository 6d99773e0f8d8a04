use Rattle.std.proofs.Common.{◌≡◌, map, take}
use Rattle.loop_data.specs.LoopCode.{instr_among}
use Rattle.loop_data.proofs.flow.instrs_of.Given as goal

abbrev pub invariant-loop-x : goal.invariant-loop-x
invariant-loop-x l = l.all.items ≡ map (instr_among l.graph.words) (take l.x-index l.body)
