-- Inductions that are written with another form than their header's and the step.
use Rattle.std.specs.Prelude.{ℕ, ◌≡◌, ◌≢◌, ◌<◌, ◌≤◌, ◌∷◌, true, List, length, Option, Some, None, ℤ, slice_index_or}
use Rattle.std.specs.List.{Any}
use Rattle.rv64_decode.specs.declared.instr.Instr.{Instr}
use Rattle.linear_forms.specs.Forms.{LinearForm}
use Rattle.linear_forms.specs.declared.location.Loc.{Loc}
use Rattle.linear_forms.specs.Locations.{number_of, IsLocation}
use Rattle.loop_data.specs.declared.classes.Class.TheVariants.{Induction}
use Rattle.loop_data.specs.declared.classes.Classes.{Classes}
use Rattle.loop_data.specs.Points.{Point, point_at}
use Rattle.loop_data.specs.declared.flow.Flow.{Flow}
use Rattle.loop_data.specs.declared.shape.Level.{Level}
use Rattle.loop_data.specs.Nests.{has}
use Rattle.loop_data.specs.Locations.{instr_writes}
use Rattle.loop_data.specs.Equations.{plus_constant}
use Rattle.loop_data.specs.FormRows.{form_after}
use Rattle.loop_data.specs.Lookups.{form_at, classes_of}
use Rattle.register_equations.specs.Rows.{forms_in}
use Rattle.register_equations.specs.States.{code_with}

-- the word of a point, where it is this instruction, which accesses this cell if any, writes the location with
-- another form than this and the step
pub record IsOther (i : Option Instr) (cell : Option ℕ) (r : ℕ) (form : LinearForm) (step : ℤ) (p : Point) : Type 0
  where
    pub does : instr_writes i cell r ≡ true
    pub other : form_after (code_with i cell) p.at (forms_in p.forms) r ≢ Some (plus_constant form step)

-- the word at a place does, and is in a body
pub record IsOtherAt (flow : Flow) (body : List ℕ) (points : List Point) (r : ℕ) (form : LinearForm) (step : ℤ)
    (k : ℕ) : Type 0 where
  pub inside : has body (point_at points k).at ≡ true
  pub written : IsOther (slice_index_or flow.instrs.items k None) (slice_index_or flow.uses.items k None) r form step
      (point_at points k)

-- the location is an induction of the loop that a word of it writes so
pub record IsAstray (flow : Flow) (levels : List Level) (classes : Classes) (points : List Point) (r : ℕ) (l : Level)
    : Type 0 where
  pub step : ℤ
  pub moves : slice_index_or (classes_of levels (classes.root ∷ classes.inner) l) r None ≡ Some (Induction step)
  pub form : LinearForm
  pub header : form_at points l.header r ≡ Some form
  pub place : ℕ
  pub within : place < length points
  pub other : IsOtherAt flow l.body points r form step place

-- the least location of which one of the loops has such an induction
abbrev pub IsLeastAstray : Flow → List Level → Classes → List Point → Option Loc → Type 0
IsLeastAstray flow levels classes points None =
    (r : ℕ) → 1 ≤ r → r < 48 → ¬ Any (IsAstray flow levels classes points r) levels
IsLeastAstray flow levels classes points (Some loc) =
    IsLocation loc × Any (IsAstray flow levels classes points (number_of loc)) levels
    × ((r : ℕ) → 1 ≤ r → r < number_of loc → ¬ Any (IsAstray flow levels classes points r) levels)
