use Rattle.loop_data.specs.LoopCode.{code_of}
use Rattle.loop_data.specs.Lookups.{cell_map, form_at}
use Rattle.affine_addresses.specs.Lists.{AreAccessesTo}
use Rattle.affine_addresses.proofs.list.accesses_of.Given as goal

abbrev pub invariant-loop-i : goal.invariant-loop-i
invariant-loop-i l = AreAccessesTo l.levels l.body (code_of l.graph (cell_map l.cells)) (form_at l.points) l.i l.list.items
