use Rattle.std.proofs.Common.{◌-◌, length}
use Rattle.loop_shapes.specs.LoopBody.{body_graph}
use Rattle.loop_shapes.specs.Places.{count_of}
use Rattle.loop_shapes.specs.PlaceSet.{IsPlaceSet}
use Rattle.loop_shapes.proofs.Gone.{TakingOut}
use Rattle.loop_shapes.proofs.cycles.is_acyclic.Given as goal

abbrev pub invariant-loop-next : goal.invariant-loop-next
invariant-loop-next l = (IsPlaceSet (count_of (body_graph l.body)) l.gone) × TakingOut l.body.program.now.open_next.items l.body.places.now l.next l.gone.found.items

abbrev pub decreases-loop-next : goal.decreases-loop-next
decreases-loop-next l = length l.body.places.now - l.next
