use Rattle.std.proofs.Common.{◌≡◌, ℕ, [], take}
use Rattle.std.specs.List.{Contains}
use Rattle.loop_shapes.specs.Gains.{Gained}
use Rattle.loop_shapes.proofs.Gains.{Among}
use Rattle.loop_shapes.proofs.sets.minus.Given as goal

abbrev pub invariant-loop-x : goal.invariant-loop-x
invariant-loop-x l = Gained (Among (λ (x z : ℕ). (z ≡ x) × ¬ Contains l.ys x) (take l.x-index l.xs)) [] l.all.items
