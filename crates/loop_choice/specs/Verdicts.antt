-- The verdict of a listed loop: the first that applies. The verdicts that the shape decides come first; then the
-- cells, what is carried, the trips, the addresses and the pairs of accesses.
use Rattle.std.specs.Prelude.{ℕ, ◌≡◌, ◌⊎◌, List, Option, Some, None}
use Rattle.linear_forms.specs.declared.location.Loc.{Loc}
use Rattle.loop_data.specs.declared.accesses.Access.{Access}
use Rattle.loop_data.specs.declared.cells.Cells.{Cells}
use Rattle.loop_data.specs.declared.classes.Classes.{Classes}
use Rattle.loop_data.specs.declared.equations.Equations.{Equations}
use Rattle.loop_data.specs.declared.graph.Graph.{Graph}
use Rattle.loop_data.specs.declared.shape.Level.{Level}
use Rattle.loop_data.specs.declared.shape.LoopShape.{LoopShape}
use Rattle.loop_data.specs.declared.trips.Trip.{Trip}
use Rattle.loop_data.specs.declared.verdict.Verdict.{Verdict}
use Rattle.loop_data.specs.declared.verdict.Verdict.TheVariants.{Carried, NoTrip, Irregular, Parallel}
use Rattle.loop_data.specs.Lookups.{cell_map, form_at}
use Rattle.induction.specs.Results.{IsLeastCarried}
use Rattle.stack_slots.specs.Results.{AreCellsOf}
use Rattle.loop_choice.specs.Analysis.{cell_of, AreSound, AreSolved, AreConfirmed, AreTrips, IsFirstWithoutTrip, IsIrregularAt, AreFound}
use Rattle.loop_choice.specs.Pairs.{IsFirstHopelessPair, HasNoHopelessPair, IsDependence}

-- the cells decide: a limit, or a cell that another access meets
pub record IsByCells (G : Graph) (levels : List Level) (v : Verdict) : Type 0 where
  pub cells : Cells
  pub are : AreCellsOf G levels cells
  pub fault : cells.fault ≡ Some v

-- a location is carried, the least
pub record IsByClasses (G : Graph) (levels : List Level) (v : Verdict) : Type 0 where
  pub cells : Cells
  pub sound : AreSound G levels cells
  pub loc : Loc
  pub least : IsLeastCarried G levels (cell_map cells) loc
  pub verdict : v ≡ Carried loc (cell_of cells.list.items loc)

-- no location is, but inductions are not confirmed; the least of them
pub record IsByForms (G : Graph) (levels : List Level) (v : Verdict) : Type 0 where
  pub cells : Cells
  pub classes : Classes
  pub equations : Equations
  pub solved : AreSolved G levels cells classes equations
  pub loc : Loc
  pub unconfirmed : equations.unconfirmed ≡ Some loc
  pub verdict : v ≡ Carried loc (cell_of cells.list.items loc)

-- each induction is confirmed, but some level has no trip
pub record IsByTrips (G : Graph) (levels : List Level) (v : Verdict) : Type 0 where
  pub cells : Cells
  pub classes : Classes
  pub equations : Equations
  pub confirmed : AreConfirmed G levels cells classes equations
  pub exit : ℕ
  pub first : IsFirstWithoutTrip G levels (form_at equations.points) exit
  pub verdict : v ≡ NoTrip exit

-- each level has a trip, but some address is not regular
pub record IsByAddresses (G : Graph) (levels : List Level) (v : Verdict) : Type 0 where
  pub cells : Cells
  pub classes : Classes
  pub equations : Equations
  pub confirmed : AreConfirmed G levels cells classes equations
  pub trips : List Trip
  pub are_trips : AreTrips G levels (form_at equations.points) trips
  pub at : ℕ
  pub irregular : IsIrregularAt G levels cells equations at
  pub verdict : v ≡ Irregular at

-- each address is regular, but some pair of accesses is hopeless; the first
pub record IsByPairs (G : Graph) (levels : List Level) (v : Verdict) : Type 0 where
  pub cells : Cells
  pub classes : Classes
  pub equations : Equations
  pub trips : List Trip
  pub list : List Access
  pub found : AreFound G levels cells classes equations trips list
  pub i : ℕ
  pub j : ℕ
  pub first : IsFirstHopelessPair list i j
  pub verdict : IsDependence first.pair.first first.pair.second v

-- no pair is
pub record IsFree (G : Graph) (levels : List Level) (v : Verdict) : Type 0 where
  pub cells : Cells
  pub classes : Classes
  pub equations : Equations
  pub trips : List Trip
  pub list : List Access
  pub found : AreFound G levels cells classes equations trips list
  pub none : HasNoHopelessPair list
  pub verdict : v ≡ Parallel

-- the verdict of a nest whose shape decides none
abbrev pub IsNestVerdict : Graph → List Level → Verdict → Type 0
IsNestVerdict G levels v =
    IsByCells G levels v
    ⊎ (IsByClasses G levels v
    ⊎ (IsByForms G levels v
    ⊎ (IsByTrips G levels v
    ⊎ (IsByAddresses G levels v
    ⊎ (IsByPairs G levels v ⊎ IsFree G levels v)))))

-- what the shape decides, or else the nest
abbrev pub IsVerdictBy : Graph → List Level → Option Verdict → Verdict → Type 0
IsVerdictBy G levels (Some early) v = v ≡ early
IsVerdictBy G levels None v = IsNestVerdict G levels v

-- the verdict of a listed loop
abbrev pub IsVerdict : Graph → LoopShape → Verdict → Type 0
IsVerdict G s v = IsVerdictBy G s.levels s.early v
