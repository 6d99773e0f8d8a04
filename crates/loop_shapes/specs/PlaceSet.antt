-- A set of places.
use Rattle.std.specs.Prelude.{ℕ, ◌≡◌, length}
use Rattle.loop_shapes.specs.declared.place_set.PlaceSet.{PlaceSet}
use Rattle.loop_shapes.specs.Search.{IsIndexed}

-- the set has slots for n places, and each of its places stands at its slot
pub record IsPlaceSet (n : ℕ) (s : PlaceSet) : Type 0 where
  pub count : length s.slots.items ≡ n
  pub indexed : IsIndexed s.found.items s.slots.items
