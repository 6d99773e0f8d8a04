-- The first two accesses that no run time test can tell apart, and how far apart their turns are.
use Rattle.std.specs.Prelude.{ℕ, ◌≡◌, ◌<◌, ◌≤◌, ◌+◌, ◌||◌, ◌⊎◌, Bool, true, if◌then◌else◌, List, length, ℤ, Option, Some, None, slice_get}
use Rattle.loop_data.specs.declared.accesses.Access.{Access}
use Rattle.loop_data.specs.declared.verdict.Verdict.{Verdict}
use Rattle.loop_data.specs.declared.verdict.Verdict.TheVariants.{Dependence}
use Rattle.dependence_tests.specs.Separation.{AreHopeless}
use Rattle.distance_vectors.specs.Distances.{vector_of, is_common, IsInBox, IsFirst, AreApart}

-- of the accesses at two places, the first at or before the second, one stores; and they are hopeless
pub record IsHopelessPair (list : List Access) (i j : ℕ) : Type 0 where
  pub first : Access
  pub second : Access
  pub at_first : slice_get list i ≡ Some first
  pub at_second : slice_get list j ≡ Some second
  pub order : i ≤ j
  pub stores : (first.store || second.store) ≡ true
  pub hopeless : AreHopeless first second

-- one of two accesses stores, and they are hopeless
pub record AreHopelessWithStore (a b : Access) : Type 0 where
  pub stores : (a.store || b.store) ≡ true
  pub hopeless : AreHopeless a b

-- the least place whose access makes such a pair with that at place i
pub record IsFirstFrom (list : List Access) (i j : ℕ) : Type 0 where
  pub pair : IsHopelessPair list i j
  pub least : (l : ℕ) → IsHopelessPair list i l → j ≤ l

-- there is no such pair
abbrev pub HasNoHopelessPair : List Access → Type 0
HasNoHopelessPair list = (i j : ℕ) → ¬ IsHopelessPair list i j

-- the first pair, in order of its first access and then of its second
pub record IsFirstHopelessPair (list : List Access) (i j : ℕ) : Type 0 where
  pub pair : IsHopelessPair list i j
  pub least : (k l : ℕ) → IsHopelessPair list k l → (i < k) ⊎ ((i ≡ k) × (j ≤ l))

-- how many inner loops two accesses are both in
abbrev pub counted : Bool → ℕ
counted b = if b then 1 else 0

abbrev pub common : Access → Access → ℕ
common a b = counted (is_common a b 1) + counted (is_common a b 2)

-- the distance of two accesses, or that they have none
abbrev pub IsDistance : Access → Access → Option (List ℤ) → Type 0
IsDistance a b (Some k) = (length k ≡ 3) × IsFirst (IsInBox a b) a b (vector_of k)
IsDistance a b None = AreApart (IsInBox a b) a b

-- the verdict of two accesses
pub record IsDependence (a b : Access) (v : Verdict) : Type 0 where
  pub distance : Option (List ℤ)
  pub is : IsDistance a b distance
  pub verdict : v ≡ Dependence a.at b.at (common a b) distance

-- that of the accesses at two places
pub record IsDependenceAt (list : List Access) (i j : ℕ) (v : Verdict) : Type 0 where
  pub first : Access
  pub second : Access
  pub at_first : slice_get list i ≡ Some first
  pub at_second : slice_get list j ≡ Some second
  pub verdict : IsDependence first second v
