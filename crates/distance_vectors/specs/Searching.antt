-- The steps of the search for the first vector at which two accesses meet.
use Rattle.std.specs.Prelude.{ℕ, ◌≡◌, ◌≤◌, ◌-◌, ◌^◌, List, Option, Some, None, ℤ, pos, negsuc, ◌≤ℤ◌}
use Rattle.std.specs.Int.RustNames.{unsigned_abs}
use Rattle.loop_data.specs.declared.accesses.Access.{Access}
use Rattle.distance_vectors.specs.Distances.{Vector, vector_of, IsFirst, AreApart}

-- a stride times an entry
pub record IsAdvance (z : ℤ) : Type 0 where
  pub low : negsuc (2 ^ 34 - 1) ≤ℤ z
  pub high : z ≤ℤ pos (2 ^ 34)

-- a constant and three strides times entries
pub record IsAddress (z : ℤ) : Type 0 where
  pub low : negsuc (2 ^ 40 - 1) ≤ℤ z
  pub high : z ≤ℤ pos (2 ^ 40)

-- the entry of the root and the sizes of the others
pub record HasSizes (root second third : ℕ) (l : Vector) : Type 0 where
  pub root_is : l.root ≡ pos root
  pub second_is : unsigned_abs l.second ≡ second
  pub third_is : unsigned_abs l.third ≡ third

-- the last entry is free
pub record HasSecond (root second last : ℕ) (l : Vector) : Type 0 where
  pub root_is : l.root ≡ pos root
  pub second_is : unsigned_abs l.second ≡ second
  pub third : unsigned_abs l.third ≤ last

-- both inner entries are free
pub record HasRoot (root middle last : ℕ) (l : Vector) : Type 0 where
  pub root_is : l.root ≡ pos root
  pub second : unsigned_abs l.second ≤ middle
  pub third : unsigned_abs l.third ≤ last

-- the answer is the first vector of a set at which the accesses meet, or none where there is none
abbrev pub IsFirstOrNone : (Vector → Type 0) → Access → Access → Option (List ℤ) → Type 0
IsFirstOrNone Among a b (Some entries) = IsFirst Among a b (vector_of entries)
IsFirstOrNone Among a b None = AreApart Among a b
