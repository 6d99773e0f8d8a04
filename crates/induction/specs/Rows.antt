-- The classes of the locations of a loop, one after the other.
use Rattle.std.specs.Prelude.{ℕ, ℤ, ◌≡◌, true, List, Option, Some, None, slice_index_or}
use Rattle.linear_forms.specs.declared.location.Loc.{Loc}
use Rattle.linear_forms.specs.Locations.{location_of}
use Rattle.loop_data.specs.declared.classes.Class.{Class}
use Rattle.loop_data.specs.declared.classes.Class.TheVariants.{Induction, Private}
use Rattle.loop_data.specs.declared.graph.Graph.{Graph}
use Rattle.loop_data.specs.declared.shape.Level.{Level}
use Rattle.loop_data.specs.Nests.{Nest}
use Rattle.loop_data.specs.Locations.{CellMap}
use Rattle.loop_data.specs.LoopCode.{LoopCode, code_of, IsUnwritten}
use Rattle.loop_data.specs.Facts.{Fact}
use Rattle.loop_data.specs.Lookups.{role_by}
use Rattle.loop_data.specs.Classes.{IsInduction, IsCarried, HasRole}
use Rattle.loop_data.specs.Results.{IsLeastLocation}
use Rattle.induction.specs.declared.words.Words.{Words}
use Rattle.induction.specs.Words.{IsLoopOf}

-- what the class of a location says of the root
abbrev pub HasClass : Nest → LoopCode → (ℕ → ℕ → Option Fact) → ℕ → Option Class → Type 0
HasClass N B V r None = IsUnwritten B N.root r
HasClass N B V r (Some c) = HasRole N B V r (role_by true (Some c))

-- what it says of an inner loop
abbrev pub HasInnerClass : Nest → LoopCode → (ℕ → ℕ → Option Fact) → Level → ℕ → Option Class → Type 0
HasInnerClass N B V l r None = (step : ℤ) → ¬ IsInduction N B V l r step
HasInnerClass N B V l r (Some (Induction step)) = IsInduction N B V l r step
HasInnerClass N B V l r (Some Private) = ⊥

-- it is that of an induction, or none
abbrev pub IsMoving : Option Class → Type 0
IsMoving None = Unit {0}
IsMoving (Some (Induction step)) = Unit {0}
IsMoving (Some Private) = ⊥

-- the class is that of the location, where the loop is the root of a nest
abbrev pub TellsClass : List Level → Level → Words → ℕ → Option Class → Type 0
TellsClass levels l w r c =
    (G : Graph) (C : CellMap) (N : Nest) (V : ℕ → ℕ → Option Fact) → IsLoopOf G C levels N l V w → l ≡ N.root
    → HasClass N (code_of G C) V r c

-- the location is carried there
abbrev pub IsCarriedAt : List Level → Level → Words → ℕ → Loc → Type 0
IsCarriedAt levels l w r loc = (loc ≡ location_of r)
    × ((G : Graph) (C : CellMap) (N : Nest) (V : ℕ → ℕ → Option Fact) → IsLoopOf G C levels N l V w → l ≡ N.root
    → IsCarried N (code_of G C) V r)

abbrev pub TellsRow : List Level → Level → Words → List (Option Class) → Type 0
TellsRow levels l w row = (r : ℕ) → TellsClass levels l w r (slice_index_or row r None)

-- it is the least location that is carried there
abbrev pub IsLeastAt : List Level → Level → Words → Loc → Type 0
IsLeastAt levels l w loc =
    (G : Graph) (C : CellMap) (N : Nest) (V : ℕ → ℕ → Option Fact) → IsLoopOf G C levels N l V w → l ≡ N.root
    → IsLeastLocation (IsCarried N (code_of G C) V) (Some loc)

abbrev pub TellsInner : List Level → Level → Words → ℕ → Option Class → Type 0
TellsInner levels l w r c = IsMoving c
    × ((G : Graph) (C : CellMap) (N : Nest) (V : ℕ → ℕ → Option Fact) → IsLoopOf G C levels N l V w
    → HasInnerClass N (code_of G C) V l r c)

abbrev pub TellsInnerRow : List Level → Level → Words → List (Option Class) → Type 0
TellsInnerRow levels l w row = (r : ℕ) → TellsInner levels l w r (slice_index_or row r None)
