-- A walk in depth over the words of a program.
use Rattle.std.specs.Prelude.{ℕ, ◌<◌, ◌+◌, ◌-◌, ◌*◌, List, length}
use Rattle.std.specs.List.{Contains}
use Rattle.loop_shapes.specs.declared.walk.Walk.{Walk}
use Rattle.loop_shapes.specs.PlaceSet.{IsPlaceSet}

-- all of these numbers are below n
abbrev pub AreBelow : ℕ → List ℕ → Type 0
AreBelow n xs = (i : ℕ) → Contains xs i → i < n

-- the walk goes over n words
pub record IsWalk (n : ℕ) (w : Walk) : Type 0 where
  pub stack : AreBelow n w.stack.items
  pub entered : IsPlaceSet n w.entered
  pub left : IsPlaceSet n w.left

-- no more turns are left: one for each word on the stack, and three for each that is not entered
abbrev pub turns_left : ℕ → Walk → ℕ
turns_left n w = 3 * (n - length w.entered.found.items) + length w.stack.items
