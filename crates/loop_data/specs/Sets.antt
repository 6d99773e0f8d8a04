-- Sets of addresses, and how many there are in one.
use Rattle.std.specs.Prelude.{ℕ, ◌≡◌, ◌≤◌, List, length}
use Rattle.std.specs.List.{Contains}
use Rattle.std.specs.List.Sorted.{IsStrictlyIncreasing}

-- the set has at most n members
pub record HasAtMost (n : ℕ) (P : ℕ → Type 0) : Type 0 where
  pub members : List ℕ
  pub bound : length members ≤ n
  pub all : (x : ℕ) → P x → Contains members x

-- the members of the set in order
pub record IsListOf (P : ℕ → Type 0) (xs : List ℕ) : Type 0 where
  pub ordered : IsStrictlyIncreasing xs
  pub each : (x : ℕ) → Contains xs x → P x
  pub every : (x : ℕ) → P x → Contains xs x

-- the set has n members
pub record HasCount (P : ℕ → Type 0) (n : ℕ) : Type 0 where
  pub members : List ℕ
  pub are : IsListOf P members
  pub count : length members ≡ n

-- the least member of the set
pub record IsLeast (P : ℕ → Type 0) (x : ℕ) : Type 0 where
  pub holds : P x
  pub least : (y : ℕ) → P y → x ≤ y
