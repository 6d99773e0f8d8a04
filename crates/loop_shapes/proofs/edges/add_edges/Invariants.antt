use Rattle.std.proofs.Common.{◌≡◌, ℕ, take}
use Rattle.loop_shapes.specs.Edges.{IsChosen}
use Rattle.loop_shapes.specs.Gains.{Gained}
use Rattle.loop_shapes.proofs.Gains.{Among}
use Rattle.loop_shapes.proofs.edges.add_edges.Given as goal

abbrev pub invariant-loop-y : goal.invariant-loop-y
invariant-loop-y l = Gained (Among (λ (y : ℕ) (e : ℕ × ℕ). (e.0 ≡ l.x) × (e.1 ≡ y) × IsChosen l.inside l.to y) (take l.y-index l.y-items)) l.initial.all.items l.all.items
