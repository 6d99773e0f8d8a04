-- What the pass over forms makes of the places of a body, one after the other.
use Rattle.std.specs.Prelude.{ℕ, ◌≡◌, ◌≢◌, ◌<◌, ◌⊎◌, ◌↔◌, ◌∷◌, ◌++◌, true, false, List, [], length, map, Option, Some, None, pos, slice_index, slice_index_or}
use Rattle.std.specs.List.{All, Contains}
use Rattle.std.specs.List.Sorted.{IsStrictlyIncreasing}
use Rattle.rv64_decode.specs.declared.instr.Instr.{Instr}
use Rattle.linear_forms.specs.Forms.{LinearForm, stride}
use Rattle.loop_data.specs.declared.classes.Class.{Class}
use Rattle.loop_data.specs.declared.classes.Classes.{Classes}
use Rattle.loop_data.specs.declared.equations.Duty.{Duty}
use Rattle.loop_data.specs.declared.flow.Flow.{Flow}
use Rattle.loop_data.specs.Points.{Point, point_at, form_in, with_forms}
use Rattle.loop_data.specs.declared.shape.Level.{Level}
use Rattle.loop_data.specs.declared.graph.Graph.{Graph}
use Rattle.loop_data.specs.Nests.{Nest, has, Holds}
use Rattle.loop_data.specs.LoopCode.{LoopCode, code_of}
use Rattle.loop_data.specs.Locations.{CellMap}
use Rattle.loop_data.specs.FormRows.{form_after, duty_from}
use Rattle.loop_data.specs.Equations.{entry_form, header_form, AreForms}
use Rattle.loop_data.specs.Lookups.{classes_of, roles_by, form_at}
use Rattle.loop_data.specs.Results.{IsNestOf, IsInnermost, IsAround}
use Rattle.loop_data.specs.Flows.{rows, row_at}
use Rattle.register_equations.specs.Rows.{forms_in}

-- an instruction at every address, which accesses this cell, if any
abbrev pub code_with : Option Instr → Option ℕ → LoopCode
code_with i cell = record { instr = λ u. i; cells = record { cells = []; uses = λ u. cell } }

-- the form of a location after the word at a place
abbrev pub past : Flow → List Point → ℕ → ℕ → Option LinearForm
past flow points k r =
    form_after (code_with (slice_index_or flow.instrs.items k None) (slice_index_or flow.uses.items k None))
    (point_at points k).at (forms_in (point_at points k).forms) r

-- the form has no stride of this loop, if the edge leaves it
abbrev pub IsKept : ℕ → ℕ → LinearForm → Level → Type 0
IsKept u v f l = Holds l u → has l.body v ≡ false → stride f l.depth ≡ pos 0

-- the edge does not leave this loop
abbrev pub IsInside : ℕ → ℕ → Level → Type 0
IsInside u v l = Holds l u → has l.body v ≡ true

-- the form stands at v after the word at a place
pub record Comes (inner : List Level) (flow : Flow) (points : List Point) (k v r : ℕ) (f : LinearForm) : Type 0 where
  pub after : past flow points k r ≡ Some f
  pub kept : All (IsKept (point_at points k).at v f) inner

-- the form, if any, that comes along all edges
abbrev pub IsMet : List Level → Flow → List Point → List ℕ → ℕ → ℕ → Option LinearForm → Type 0
IsMet inner flow points sources v r o =
    (f : LinearForm) → (o ≡ Some f) ↔ All (λ k. Comes inner flow points k v r f) sources

-- what is left of the form of a location at place p: the form, if it comes along all edges
abbrev pub IsLeft : List Level → Flow → List Point → List ℕ → ℕ → ℕ → ℕ → Option LinearForm → Type 0
IsLeft inner flow points sources p v r o =
    (f : LinearForm) → (o ≡ Some f) ↔ ((form_in points p r ≡ Some f)
    × All (λ k. Comes inner flow points k v r f) sources)

-- the new points are the old ones with other forms at place p, of which P tells
pub record AreSetBy (P : ℕ → Option LinearForm → Type 0) (p : ℕ) (old new : List Point) : Type 0 where
  pub state : List (Option LinearForm)
  pub count : length state ≡ 48
  pub forms : (r : ℕ) → r < 48 → P r (forms_in state r)
  pub is : new ≡ with_forms old p state

-- no stride of this depth
abbrev pub IsFree : ℕ → Option LinearForm → Type 0
IsFree depth o = (f : LinearForm) → o ≡ Some f → stride f depth ≡ pos 0

-- the form at the header of this loop, out of one that comes along all edges, if that has no stride of the loop
pub record IsHeaderForm (B : LoopCode) (levels : List Level) (classes : Classes) (l : Level)
    (P : Option LinearForm → Type 0) (r : ℕ) (o : Option LinearForm) : Type 0 where
  pub outside : Option LinearForm
  pub met : P outside
  pub is : IsFree l.depth outside → o ≡ header_form l.depth (roles_by B levels classes l r) outside

-- the class of a location in the loop of a header
abbrev pub IsClass : List Level → Classes → ℕ → ℕ → Option Class → Type 0
IsClass levels c header r class =
    (l : Level) → l.header ≡ header → class ≡ slice_index_or (classes_of levels (c.root ∷ c.inner) l) r None

-- the forms are those of the word v at a place, which has these sources
pub record AreFormsAt (B : LoopCode) (levels inner : List Level) (root : Level) (classes : Classes)
    (flow : Flow) (points : List Point) (sources : List ℕ) (v : ℕ) (state : List (Option LinearForm)) : Type 0 where
  pub count : length state ≡ 48
  pub first : v ≡ root.header → (r : ℕ) → r < 48
      → IsHeaderForm B levels classes root (λ o. o ≡ entry_form B r) r (forms_in state r)
  pub other : v ≢ root.header
      → ((l : Level) × Contains inner l × (v ≡ l.header)
      × ((r : ℕ) → r < 48 → IsHeaderForm B levels classes l (IsMet inner flow points sources v r) r
      (forms_in state r)))
      ⊎ (((l : Level) → Contains inner l → v ≢ l.header)
      × ((r : ℕ) → r < 48 → IsMet inner flow points sources v r (forms_in state r)))

-- the forms of a place are right
abbrev pub IsFormPlace : LoopCode → List Level → List Level → Level → Classes → Flow → List Point → ℕ → Type 0
IsFormPlace B levels inner root classes flow points p =
    AreFormsAt B levels inner root classes flow points (row_at (rows flow.sources.items) p) (point_at points p).at
    (point_at points p).forms

-- the new points are the old ones with other forms at place p, which are right
pub record AreFormsSet (B : LoopCode) (levels inner : List Level) (root : Level) (classes : Classes)
    (flow : Flow) (p : ℕ) (old new : List Point) : Type 0 where
  pub state : List (Option LinearForm)
  pub right : AreFormsAt B levels inner root classes flow old (row_at (rows flow.sources.items) p) (point_at old p).at
      state
  pub is : new ≡ with_forms old p state

-- the points of the words of a nest, whose forms solve its equations
pub record AreSolvedPoints (G : Graph) (C : CellMap) (levels : List Level) (classes : Classes) (points : List Point)
    : Type 0 where
  pub words : (N : Nest) → IsNestOf G levels N → map (λ (p : Point). p.at) points ≡ N.root.body
  pub forms : (N : Nest) → IsNestOf G levels N
      → AreForms N (code_of G C) (roles_by (code_of G C) levels classes) (form_at points)

-- the form whose values have to be numbers of 32 bits at the word at a place
abbrev pub owed_at : Flow → List Point → ℕ → Option LinearForm
owed_at flow points k =
    duty_from (slice_index_or flow.instrs.items k None) (slice_index_or flow.uses.items k None)
    (forms_in (point_at points k).forms)

-- a duty of the word of a point, which owes this form
pub record IsDutyOf (levels : List Level) (p : Point) (owed : Option LinearForm) (d : Duty) : Type 0 where
  pub at : d.at ≡ p.at
  pub form : owed ≡ Some d.form
  pub innermost : IsInnermost levels p.at d.level
  pub around : (k : ℕ) → k < 3 → IsAround levels p.at k (slice_index d.around k)

abbrev pub duty_ats : List Duty → List ℕ
duty_ats duties = map (λ (d : Duty). d.at) duties

-- the duties are the old ones with that of a point, if it has one
abbrev pub IsDutyAdded : List Level → Point → Option LinearForm → List Duty → List Duty → Type 0
IsDutyAdded levels p None old new = new ≡ old
IsDutyAdded levels p (Some f) old new = (d : Duty) × IsDutyOf levels p (Some f) d × (new ≡ old ++ d ∷ [])

-- the duties of the first points, in order
pub record AreDutiesTo (flow : Flow) (levels : List Level) (points : List Point) (i : ℕ) (duties : List Duty) : Type 0
  where
    pub ordered : IsStrictlyIncreasing (duty_ats duties)
    pub each : (d : Duty) → Contains duties d
        → (k : ℕ) × (k < i) × IsDutyOf levels (point_at points k) (owed_at flow points k) d
    pub every : (k : ℕ) (f : LinearForm) → k < i → owed_at flow points k ≡ Some f
        → Contains (duty_ats duties) (point_at points k).at
