use Rattle.std.proofs.Common.{◌≡◌, ℕ, ◌-◌, length, Some, subst}
use Rattle.std.specs.List.{slice_get}
use Rattle.loop_shapes.specs.Walk.{AreBelow}
use Rattle.loop_shapes.proofs.Walking.{among_at}
use Rattle.loop_shapes.proofs.walk.left_in_order.Goals as goal

pub loop-place-init : goal.loop-place-init
loop-place-init c = record { stack = subst (λ (n : ℕ). AreBelow n c.in_ok-stack.stack.items) c.requires.count c.in_ok-stack.ensures; entered = c.in_ok-clear.ensures.set; left = c.in_ok-clear-2.ensures.set }

pub turn-requires-clause-within : goal.turn-requires-clause-within
turn-requires-clause-within c =
    let xs = c.loop-place.walk.stack.items in
    let last : slice_get xs (length xs - 1) ≡ Some c.in-Some.place = cc in
    c.loop-place.invariant.stack c.in-Some.place (among_at xs (length xs - 1) c.in-Some.place last)
