-- What the classes of a loop say.
use Rattle.std.specs.Prelude.{ℕ, ◌≡◌, ◌<◌, ◌≤◌, ◌+◌, List, [], length, Option, Some, None, slice_index_or}
use Rattle.linear_forms.specs.declared.location.Loc.{Loc}
use Rattle.loop_data.specs.declared.classes.Class.{Class}
use Rattle.loop_data.specs.declared.graph.Graph.{Graph}
use Rattle.loop_data.specs.declared.shape.Level.{Level}
use Rattle.loop_data.specs.Nests.{Nest}
use Rattle.loop_data.specs.Locations.{CellMap}
use Rattle.loop_data.specs.LoopCode.{code_of}
use Rattle.loop_data.specs.Facts.{Fact}
use Rattle.loop_data.specs.FactPass.{AreFacts}
use Rattle.loop_data.specs.Classes.{IsCarried}
use Rattle.loop_data.specs.Results.{IsNestOf, IsLeastLocation, class_in, class_at}
use Rattle.induction.specs.declared.refusal.ClassErr.{ClassErr}
use Rattle.induction.specs.declared.refusal.ClassErr.TheVariants.{Carried, OutOfMemory}
use Rattle.induction.specs.Rows.{HasClass, HasInnerClass, IsMoving}

-- a row has the classes of the root, whose pass has these facts
abbrev pub IsRootRow : Graph → List Level → CellMap → List (Option Class) → Type 0
IsRootRow G levels C row =
    (N : Nest) (V : ℕ → ℕ → Option Fact) (r : ℕ) → IsNestOf G levels N → AreFacts N (code_of G C) N.root V
    → HasClass N (code_of G C) V r (class_in row r)

-- a row has the inductions of the loop at a place among the levels, whose pass has these facts
pub record IsInnerRow (G : Graph) (levels : List Level) (C : CellMap) (level : ℕ) (row : List (Option Class))
    : Type 0 where
  pub moving : (r : ℕ) → IsMoving (class_in row r)
  pub each : (N : Nest) (V : ℕ → ℕ → Option Fact) (l : Level) (r : ℕ) → IsNestOf G levels N
      → AreFacts N (code_of G C) l V → slice_index_or levels level l ≡ l
      → HasInnerClass N (code_of G C) V l r (class_in row r)

-- the rows have those of the levels from 1 up to n, one after the other, and nothing behind
pub record AreInnerRows (G : Graph) (levels : List Level) (C : CellMap) (n : ℕ) (rows : List (List (Option Class)))
    : Type 0 where
  pub count : length rows ≡ 3
  pub each : (i : ℕ) → i + 1 < n → IsInnerRow G levels C (i + 1) (slice_index_or rows i [])
  pub beyond : (i r : ℕ) → n ≤ i + 1 → class_at rows i r ≡ None

-- the location is the least that is carried, by the facts of the root's pass
abbrev pub IsLeastCarried : Graph → List Level → CellMap → Loc → Type 0
IsLeastCarried G levels C loc = (N : Nest) (V : ℕ → ℕ → Option Fact) → IsNestOf G levels N
    → AreFacts N (code_of G C) N.root V → IsLeastLocation (IsCarried N (code_of G C) V) (Some loc)

abbrev pub IsRefusal : Graph → List Level → CellMap → ClassErr → Type 0
IsRefusal G levels C (Carried loc) = IsLeastCarried G levels C loc
IsRefusal G levels C OutOfMemory = Unit {0}
