-- What the passes over a loop and its inner loops give.
use Rattle.std.specs.Prelude.{ℕ, ◌≡◌, ◌≢◌, ◌<◌, ◌≤◌, ◌⊎◌, true, List, [], ◌∷◌, length, map, Option, Some, None, slice_index, slice_index_or, ℤ}
use Rattle.std.specs.List.{Contains}
use Rattle.std.specs.List.Sorted.{IsStrictlyIncreasing}
use Rattle.linear_forms.specs.Forms.{LinearForm, is_small}
use Rattle.linear_forms.specs.Locations.{number_of, IsLocation}
use Rattle.linear_forms.specs.declared.location.Loc.{Loc}
use Rattle.loop_data.specs.declared.equations.Duty.{Duty}
use Rattle.loop_data.specs.declared.equations.Equations.{Equations}
use Rattle.loop_data.specs.Points.{Point}
use Rattle.loop_data.specs.declared.classes.Class.{Class}
use Rattle.loop_data.specs.declared.classes.Class.TheVariants.{Induction, Private}
use Rattle.loop_data.specs.declared.classes.Classes.{Classes}
use Rattle.loop_data.specs.declared.graph.Graph.{Graph}
use Rattle.loop_data.specs.declared.shape.Level.{Level}
use Rattle.loop_data.specs.declared.values.Values.{Values}
use Rattle.loop_data.specs.Nests.{Nest, nest_of, Among, Holds}
use Rattle.loop_data.specs.Independent.{Role, Moves}
use Rattle.loop_data.specs.Locations.{CellMap}
use Rattle.loop_data.specs.LoopCode.{LoopCode, code_of, writes, any_writes, IsUnwritten}
use Rattle.loop_data.specs.Classes.{HasRole, HasInnerRole}
use Rattle.loop_data.specs.Facts.{Fact}
use Rattle.loop_data.specs.FactPass.{AreFacts}
use Rattle.loop_data.specs.FormRows.{form_after, duty}
use Rattle.loop_data.specs.Equations.{plus_constant, AreForms}
use Rattle.loop_data.specs.Lookups.{fact_at, form_at, role_by, roles_by}

-- a loop and its inner loops, the root first
pub record IsNestOf (G : Graph) (levels : List Level) (N : Nest) : Type 0 where
  pub root : Level
  pub inner : List Level
  pub are : levels ≡ root ∷ inner
  pub is : N ≡ nest_of G root inner

-- the steps of inductions are small enough for a form
abbrev pub AreSmall : List (Option Class) → Type 0
AreSmall row = (r : ℕ) (step : ℤ) → slice_index_or row r None ≡ Some (Induction step) → is_small step ≡ true

pub record AreSmallSteps (c : Classes) : Type 0 where
  pub root : AreSmall c.root
  pub inner : (i : ℕ) → AreSmall (slice_index_or c.inner i [])

-- the facts at each word of the loop at a place among the levels
pub record AreFactsOf (G : Graph) (levels : List Level) (C : CellMap) (level : ℕ) (values : List Values)
    : Type 0 where
  pub words : (l : Level) → slice_index_or levels level l ≡ l → map (λ (v : Values). v.at) values ≡ l.body
  pub facts : (N : Nest) (l : Level) → IsNestOf G levels N → slice_index_or levels level l ≡ l
      → AreFacts N (code_of G C) l (fact_at values)

-- the class of a location in a row, and in one of several rows
abbrev pub class_in : List (Option Class) → ℕ → Option Class
class_in row r = slice_index_or row r None

abbrev pub class_at : List (List (Option Class)) → ℕ → ℕ → Option Class
class_at rows i r = class_in (slice_index_or rows i []) r

-- each location has the role that its class tells: in the root by the facts of its pass, in an inner loop
-- by those of its own
pub record AreClasses (G : Graph) (levels : List Level) (C : CellMap) (c : Classes) : Type 0 where
  pub root : (N : Nest) (V : ℕ → ℕ → Option Fact) (r : ℕ) → IsNestOf G levels N
      → AreFacts N (code_of G C) N.root V
      → HasRole N (code_of G C) V r (role_by (any_writes (code_of G C) N.root.body r) (class_in c.root r))
  pub unwritten : (N : Nest) (r : ℕ) → IsNestOf G levels N → class_in c.root r ≡ None
      → IsUnwritten (code_of G C) N.root r
  pub inner : (N : Nest) (V : ℕ → ℕ → Option Fact) (l : Level) (i r : ℕ) → IsNestOf G levels N
      → AreFacts N (code_of G C) l V → i < length N.inner → slice_index_or N.inner i l ≡ l
      → HasInnerRole N (code_of G C) V l r (role_by (any_writes (code_of G C) l.body r) (class_at c.inner i r))
  pub moving : (i r : ℕ) → class_at c.inner i r ≢ Some Private
  pub beyond : (N : Nest) (i r : ℕ) → IsNestOf G levels N → length N.inner ≤ i → class_at c.inner i r ≡ None
  pub steps : AreSmallSteps c

-- an induction of some loop is written with another form than its header's and the step
pub record IsUnconfirmed (N : Nest) (B : LoopCode) (roles : Level → ℕ → Role) (at : ℕ → ℕ → Option LinearForm)
    (r : ℕ) : Type 0 where
  pub loop : Level
  pub among : Among N loop
  pub word : ℕ
  pub inside : Holds loop word
  pub does : writes B word r ≡ true
  pub step : ℤ
  pub moves : roles loop r ≡ Moves step
  pub form : LinearForm
  pub header : at loop.header r ≡ Some form
  pub other : form_after B word (at word) r ≢ Some (plus_constant form step)

-- the least location of which that is so
abbrev pub IsLeastLocation : (ℕ → Type 0) → Option Loc → Type 0
IsLeastLocation P None = (r : ℕ) → ¬ P r
IsLeastLocation P (Some loc) = IsLocation loc × P (number_of loc) × ((r : ℕ) → P r → number_of loc ≤ r)

-- the loop at this place is the innermost round the word
pub record IsInnermost (levels : List Level) (u level : ℕ) : Type 0 where
  pub loop : Level
  pub within : level < length levels
  pub at : slice_index_or levels level loop ≡ loop
  pub holds : Holds loop u
  pub innermost : (l : Level) → Contains levels l → Holds l u → l.depth ≤ loop.depth

-- the loop of a depth round the word stands at this place, or there is none and the place is 0
abbrev pub IsAround : List Level → ℕ → ℕ → ℕ → Type 0
IsAround levels u depth place =
    ((l : Level) × (place < length levels) × (slice_index_or levels place l ≡ l) × Holds l u
    × (l.depth ≡ depth))
    ⊎ (((l : Level) → Contains levels l → l.depth ≡ depth → ¬ Holds l u) × (place ≡ 0))

-- the place among the levels of the loop of a depth round a word, if there is one
abbrev pub IsAroundAt : List Level → ℕ → ℕ → Option ℕ → Type 0
IsAroundAt levels u depth (Some i) =
    (i < length levels) × ((l : Level) × (slice_index_or levels i l ≡ l) × Holds l u × (l.depth ≡ depth))
IsAroundAt levels u depth None = (l : Level) → Contains levels l → l.depth ≡ depth → ¬ Holds l u

-- a duty of the word at its address
pub record IsDuty (levels : List Level) (B : LoopCode) (at : ℕ → ℕ → Option LinearForm) (d : Duty)
    : Type 0 where
  pub form : duty B d.at (at d.at) ≡ Some d.form
  pub innermost : IsInnermost levels d.at d.level
  pub around : (k : ℕ) → k < 3 → IsAround levels d.at k (slice_index d.around k)

-- the duties of the words of a body, in address order
pub record AreDuties (levels : List Level) (body : List ℕ) (B : LoopCode) (at : ℕ → ℕ → Option LinearForm)
    (duties : List Duty) : Type 0 where
  pub ordered : IsStrictlyIncreasing (map (λ (d : Duty). d.at) duties)
  pub each : (d : Duty) → Contains duties d → Contains body d.at × IsDuty levels B at d
  pub every : (u : ℕ) (f : LinearForm) → Contains body u → duty B u (at u) ≡ Some f
      → Contains (map (λ (d : Duty). d.at) duties) u

-- the forms at each word, with what they owe and the least induction that they do not confirm
pub record AreEquations (G : Graph) (levels : List Level) (C : CellMap) (classes : Classes) (e : Equations)
    : Type 0 where
  pub words : (N : Nest) → IsNestOf G levels N → map (λ (p : Point). p.at) e.points ≡ N.root.body
  pub forms : (N : Nest) → IsNestOf G levels N
      → AreForms N (code_of G C) (roles_by (code_of G C) levels classes) (form_at e.points)
  pub duties : (N : Nest) → IsNestOf G levels N
      → AreDuties levels N.root.body (code_of G C) (form_at e.points) e.duties
  pub unconfirmed : (N : Nest) → IsNestOf G levels N
      → IsLeastLocation
      (IsUnconfirmed N (code_of G C) (roles_by (code_of G C) levels classes) (form_at e.points)) e.unconfirmed
