use Rattle.std.proofs.Common.{take}
use Rattle.std.specs.List.{Contains}
use Rattle.loop_shapes.specs.Cycles.{HasGone}
use Rattle.loop_shapes.specs.LoopBody.{body_graph}
use Rattle.loop_shapes.specs.Places.{count_of}
use Rattle.loop_shapes.specs.PlaceSet.{IsPlaceSet}
use Rattle.loop_shapes.proofs.cycles.take_out_all.Given as goal

abbrev pub invariant-loop-place : goal.invariant-loop-place
invariant-loop-place l = (IsPlaceSet (count_of (body_graph l.body)) l.gone) × HasGone l.body.program.now.open_next.items l.body.places.now (Contains (take l.place-index l.places)) l.initial.gone.found.items l.gone.found.items
