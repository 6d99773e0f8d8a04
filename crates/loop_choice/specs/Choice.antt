-- The loops that are chosen to be divided.
use Rattle.std.specs.Prelude.{ℕ, ◌≡◌, ◌≢◌, ◌≤◌, ◌<◌, List, [], ◌∷◌, length, map, Some, slice_get}
use Rattle.std.specs.List.{Contains}
use Rattle.loop_data.specs.declared.verdict.Verdict.TheVariants.{Parallel}
use Rattle.loop_data.specs.Sets.{IsListOf, HasCount}
use Rattle.loop_choice.specs.declared.judged.Judged.{Judged}
use Rattle.loop_choice.specs.declared.refusal.ChooseErr.{ChooseErr}
use Rattle.loop_choice.specs.declared.refusal.ChooseErr.TheVariants.{TooManyLoops, OutOfMemory}

-- at most so many loops are chosen
abbrev pub most_chosen : ℕ
most_chosen = 1024

abbrev pub headers_of : List Judged → List ℕ
headers_of all = map (λ (j : Judged). j.header) all

-- the loop at a place holds this word, and is Parallel
pub record IsParallelWith (all : List Judged) (u place : ℕ) : Type 0 where
  pub loop : Judged
  pub is : slice_get all place ≡ Some loop
  pub parallel : loop.verdict ≡ Parallel
  pub holds : Contains loop.body u

-- the loop at a place is Parallel, and its header lies in the body of no other Parallel loop
pub record IsChosen (all : List Judged) (place : ℕ) : Type 0 where
  pub loop : Judged
  pub is : slice_get all place ≡ Some loop
  pub parallel : loop.verdict ≡ Parallel
  pub outermost : (other : ℕ) → other ≢ place → ¬ IsParallelWith all loop.header other

-- the places of the chosen loops, in order, of which there are not too many
pub record AreChosen (all : List Judged) (places : List ℕ) : Type 0 where
  pub are : IsListOf (IsChosen all) places
  pub few : length places ≤ most_chosen

-- so many are chosen, which is too many
pub record AreTooMany (all : List Judged) (n : ℕ) : Type 0 where
  pub count : HasCount (IsChosen all) n
  pub many : most_chosen < n

abbrev pub IsChoiceRefused : List Judged → ChooseErr → Type 0
IsChoiceRefused all (TooManyLoops count) = AreTooMany all count
IsChoiceRefused all OutOfMemory = Unit {0}

-- there is one answer
pub record OneChoiceLaw : Type 0 where
  pub places : (all : List Judged) (xs ys : List ℕ) → AreChosen all xs → AreChosen all ys → xs ≡ ys
  pub counts : (all : List Judged) (m n : ℕ) → AreTooMany all m → AreTooMany all n → m ≡ n
  pub apart : (all : List Judged) (xs : List ℕ) (n : ℕ) → AreChosen all xs → ¬ AreTooMany all n

-- two lists of loops have the same headers, bodies and verdicts
abbrev pub HaveSameVerdicts : List Judged → List Judged → Type 0
HaveSameVerdicts [] [] = Unit {0}
HaveSameVerdicts (j ∷ js) (k ∷ ks) =
    (j.header ≡ k.header) × (j.body ≡ k.body) × (j.verdict ≡ k.verdict) × HaveSameVerdicts js ks
HaveSameVerdicts js ks = ⊥

-- then the same are chosen
abbrev pub SameChoiceLaw : Type 0
SameChoiceLaw = (all other : List Judged) (place : ℕ) → HaveSameVerdicts all other → IsChosen all place
    → IsChosen other place
