-- Which loops are found to lie in others, while the words of bodies are gone over.
use Rattle.std.specs.Prelude.{ℕ, ◌≡◌, ◌≢◌, ◌<◌, ◌⊎◌, Bool, true, false, List, length, Some, slice_get, slice_index_or}
use Rattle.std.specs.List.{Contains}
use Rattle.std.specs.List.Sorted.{IsStrictlyIncreasing}
use Rattle.loop_choice.specs.declared.judged.Judged.{Judged}
use Rattle.loop_choice.specs.Choice.{IsParallelWith, IsChosen}

-- a flag is set
abbrev pub IsSet : List Bool → ℕ → Type 0
IsSet flags p = slice_index_or flags p false ≡ true

-- the new flags are the old ones with those of a set
pub record AreSetToo (P : ℕ → Type 0) (old new : List Bool) : Type 0 where
  pub count : length new ≡ length old
  pub each : (p : ℕ) → IsSet new p → IsSet old p ⊎ P p
  pub kept : (p : ℕ) → IsSet old p → IsSet new p
  pub every : (p : ℕ) → P p → IsSet new p

-- another loop than that at place i has this header, and stands at place p
pub record IsOtherAt (all : List Judged) (i u p : ℕ) : Type 0 where
  pub loop : Judged
  pub is : slice_get all p ≡ Some loop
  pub header : loop.header ≡ u
  pub apart : i ≢ p

-- another loop than that at place i, at place p, has its header among these words
pub record IsOtherAmong (all : List Judged) (i : ℕ) (words : List ℕ) (p : ℕ) : Type 0 where
  pub word : ℕ
  pub among : Contains words word
  pub other : IsOtherAt all i word p

-- the header of the loop at place p lies in the body of the Parallel loop at another place below n
pub record LiesInOther (all : List Judged) (n p : ℕ) : Type 0 where
  pub loop : Judged
  pub is : slice_get all p ≡ Some loop
  pub place : ℕ
  pub below : place < n
  pub apart : place ≢ p
  pub holds : IsParallelWith all loop.header place

-- the flags of those loops are set, and no others
pub record AreFlags (all : List Judged) (n : ℕ) (flags : List Bool) : Type 0 where
  pub count : length flags ≡ length all
  pub each : (p : ℕ) → IsSet flags p → LiesInOther all n p
  pub every : (p : ℕ) → LiesInOther all n p → IsSet flags p

-- the chosen ones of the first places are listed, in order
pub record AreChosenBelow (all : List Judged) (n : ℕ) (places : List ℕ) : Type 0 where
  pub ordered : IsStrictlyIncreasing places
  pub each : (x : ℕ) → Contains places x → IsChosen all x × (x < n)
  pub every : (x : ℕ) → IsChosen all x → x < n → Contains places x

-- the loop at a place has this header
pub record HasHeaderAt (all : List Judged) (u p : ℕ) : Type 0 where
  pub loop : Judged
  pub is : slice_get all p ≡ Some loop
  pub header : loop.header ≡ u

-- no loop has
abbrev pub HasNoHeader : List Judged → ℕ → Type 0
HasNoHeader all u = (p : ℕ) → ¬ HasHeaderAt all u p
