-- What is found of a nest of loops, one after the other: its cells, its classes, the forms at its words, its trips and
-- its accesses.
use Rattle.std.specs.Prelude.{ℕ, ◌≡◌, ◌<◌, List, length, Option, Some, None, slice_get}
use Rattle.linear_forms.specs.Forms.{LinearForm}
use Rattle.linear_forms.specs.declared.location.Loc.{Loc}
use Rattle.linear_forms.specs.declared.location.Loc.TheVariants.{Reg, Cell as CellLoc}
use Rattle.loop_data.specs.declared.accesses.Access.{Access}
use Rattle.loop_data.specs.declared.cells.Cells.{Cells}
use Rattle.loop_data.specs.declared.classes.Classes.{Classes}
use Rattle.loop_data.specs.declared.equations.Equations.{Equations}
use Rattle.loop_data.specs.declared.graph.Graph.{Graph}
use Rattle.loop_data.specs.declared.shape.Level.{Level}
use Rattle.loop_data.specs.declared.trips.Trip.{Trip}
use Rattle.loop_data.specs.declared.verdict.Cell.{Cell}
use Rattle.loop_data.specs.Accesses.{AreAccesses, IsLeastIrregular}
use Rattle.loop_data.specs.Locations.{cell_at}
use Rattle.loop_data.specs.LoopCode.{code_of}
use Rattle.loop_data.specs.Lookups.{cell_map, form_at}
use Rattle.loop_data.specs.Nests.{Nest}
use Rattle.loop_data.specs.Results.{IsNestOf, AreClasses, AreEquations}
use Rattle.loop_data.specs.Trips.{IsTripAt}
use Rattle.stack_slots.specs.Results.{AreCellsOf}

-- the cell that a location is, if it is one
abbrev pub cell_of : List Cell → Loc → Option Cell
cell_of cells (Reg n) = None
cell_of cells (CellLoc n) = cell_at cells n

-- the cells of a nest, which do not decide against it
pub record AreSound (G : Graph) (levels : List Level) (c : Cells) : Type 0 where
  pub cells : AreCellsOf G levels c
  pub no_fault : c.fault ≡ None

-- with them the classes of its locations and the forms at its words
pub record AreSolved (G : Graph) (levels : List Level) (c : Cells) (k : Classes) (e : Equations) : Type 0 where
  pub sound : AreSound G levels c
  pub classes : AreClasses G levels (cell_map c) k
  pub equations : AreEquations G levels (cell_map c) k e

-- by which each induction is confirmed
pub record AreConfirmed (G : Graph) (levels : List Level) (c : Cells) (k : Classes) (e : Equations) : Type 0 where
  pub solved : AreSolved G levels c k e
  pub confirmed : e.unconfirmed ≡ None

-- the trips of all levels, where the locations have these forms
pub record AreTrips (G : Graph) (levels : List Level) (at : ℕ → ℕ → Option LinearForm) (trips : List Trip)
    : Type 0 where
  pub count : length trips ≡ length levels
  pub each : (i : ℕ) (t : Trip) → slice_get trips i ≡ Some t → IsTripAt G levels at i (Some t)

-- the first of the levels that has no trip is left at this branch
pub record IsFirstWithoutTrip (G : Graph) (levels : List Level) (at : ℕ → ℕ → Option LinearForm) (exit : ℕ)
    : Type 0 where
  pub place : ℕ
  pub level : Level
  pub is : slice_get levels place ≡ Some level
  pub left : exit ≡ level.exit
  pub none : IsTripAt G levels at place None
  pub others : (i : ℕ) → i < place → (t : Trip) × IsTripAt G levels at i (Some t)

-- the accesses of the root's words, in address order
abbrev pub AreAccessesOf : Graph → List Level → Cells → Equations → List Access → Type 0
AreAccessesOf G levels c e list = (N : Nest) → IsNestOf G levels N
    → AreAccesses levels N.root.body (code_of G (cell_map c)) (form_at e.points) list

-- the least word of the root that accesses an address which is not regular
abbrev pub IsIrregularAt : Graph → List Level → Cells → Equations → ℕ → Type 0
IsIrregularAt G levels c e u = (N : Nest) → IsNestOf G levels N
    → IsLeastIrregular N.root.body (code_of G (cell_map c)) (form_at e.points) u

-- all of these, where none decides against the nest
pub record AreFound (G : Graph) (levels : List Level) (c : Cells) (k : Classes) (e : Equations) (trips : List Trip)
    (list : List Access) : Type 0 where
  pub confirmed : AreConfirmed G levels c k e
  pub are_trips : AreTrips G levels (form_at e.points) trips
  pub are_accesses : AreAccessesOf G levels c e list
