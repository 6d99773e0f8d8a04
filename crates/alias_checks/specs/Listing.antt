-- What a check lists: each two accesses of which one is a store, and the bounds of an executable's areas.
use Rattle.std.specs.Prelude.{ℕ, zero, suc, ◌≡◌, ◌≤◌, ◌<◌, ◌+◌, Bool, true, false, ◌||◌, if◌then◌else◌, List, [], ◌∷◌, ◌++◌, length, map, slice_index_or}
use Rattle.std.specs.List.{All}
use Rattle.elf_image.specs.declared.image.Elf.{Elf}
use Rattle.elf_image.specs.declared.image.Segment.{Segment}
use Rattle.elf_image.specs.Layout.{rounded_low, rounded_end}
use Rattle.guest_memory.specs.Areas.{heap_low, heap_size, stack_low, stack_size}
use Rattle.loop_data.specs.declared.accesses.Access.{Access}
use Rattle.loop_data.specs.declared.cells.Cells.{Cells}
use Rattle.loop_data.specs.declared.plans.Term.{Term}
use Rattle.dependence_tests.specs.Terms.{IsTermOf, IsSized}
use Rattle.alias_checks.specs.Areas.{Bounds}

-- the places of a pair
abbrev pub Two : Type 0
Two = ℕ × ℕ

-- the access at place i, which stores or not, with each of those from place j on, where one of the two stores
abbrev pub row_from : Bool → ℕ → ℕ → List Access → List Two
row_from store i j [] = []
row_from store i j (b ∷ bs) =
    (if store || b.store then (i, j) ∷ [] else []) ++ row_from store i (suc j) bs

-- each access from place i on with itself and with those behind it
abbrev pub rows_from : ℕ → List Access → List Two
rows_from i [] = []
rows_from i (a ∷ rest) = row_from a.store i i (a ∷ rest) ++ rows_from (suc i) rest

-- the access at place i stores
abbrev pub stores_at : List Access → ℕ → Bool
stores_at [] i = false
stores_at (a ∷ rest) zero = a.store
stores_at (a ∷ rest) (suc i) = stores_at rest i

abbrev pub Pair : Type 0
Pair = ℕ × ℕ × Term

abbrev pub places_in : List Pair → List Two
places_in pairs = map (λ (t : Pair). (t.0, t.1)) pairs

-- a pair is of two accesses of which one stores, the first at or before the second, and its term is theirs
pub record IsPair (accesses : List Access) (t : Pair) : Type 0 where
  pub first : t.0 < length accesses
  pub second : t.1 < length accesses
  pub order : t.0 ≤ t.1
  pub stores : (stores_at accesses t.0 || stores_at accesses t.1) ≡ true
  pub term : (d : Access) → IsTermOf (slice_index_or accesses t.0 d) (slice_index_or accesses t.1 d) t.2
  pub sized : IsSized t.2

-- each two accesses of which one stores, by their places in order, the first at or before the second
pub record ArePairs (accesses : List Access) (pairs : List Pair) : Type 0 where
  pub places : places_in pairs ≡ rows_from 0 accesses
  pub each : All (IsPair accesses) pairs

-- the bounds of a segment's area, and of an area that may be read and written
abbrev pub segment_bounds : Segment → Bounds
segment_bounds s = (rounded_low s, rounded_end s, s.flags)

abbrev pub data_bounds : ℕ → ℕ → Bounds
data_bounds low size = (low, low + size, 6)

-- those of all areas of an executable, in address order
abbrev pub bounds_of : Elf → List Bounds
bounds_of elf =
    map segment_bounds elf.segments
    ++ (data_bounds (heap_low elf.segments) heap_size ∷ (data_bounds stack_low stack_size ∷ []))

-- the cells, their uses and the fault are the same
pub record AreSameCells (c d : Cells) : Type 0 where
  pub list : c.list.items ≡ d.list.items
  pub uses : c.uses.items ≡ d.uses.items
  pub fault : c.fault ≡ d.fault
