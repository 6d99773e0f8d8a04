-- A search forwards along step edges, inside a set of addresses.
use Rattle.std.specs.Prelude.{ℕ, ◌≡◌, ◌<◌, ◌≤◌, ◌⊎◌, List, length, slice_index}
use Rattle.std.specs.List.{Contains}
use Rattle.loop_shapes.specs.Sets.{AreDifferent}

-- an address that is new, in the set and among some
pub record IsNew (set ys : List ℕ) (y : ℕ) : Type 0 where
  pub inside : Contains set y
  pub among : Contains ys y

-- the old addresses in their places, and those of ys that are in the set, each once
pub record Extended (set ys old new : List ℕ) : Type 0 where
  pub longer : length old ≤ length new
  pub same : (k : ℕ) → k < length old → slice_index new k ≡ slice_index old k
  pub each : (y : ℕ) → Contains new y → Contains old y ⊎ IsNew set ys y
  pub every : (y : ℕ) → IsNew set ys y → Contains new y
  pub apart : AreDifferent old → AreDifferent new
