-- The equations of a nest have one answer.
use Rattle.std.specs.Prelude.{ℕ, ◌≡◌, List, length}
use Rattle.std.specs.List.{All}
use Rattle.loop_data.specs.declared.classes.Classes.{Classes}
use Rattle.loop_data.specs.declared.equations.Duty.{Duty}
use Rattle.loop_data.specs.declared.equations.Equations.{Equations}
use Rattle.loop_data.specs.Points.{Point}
use Rattle.loop_data.specs.declared.graph.Graph.{Graph}
use Rattle.loop_data.specs.declared.shape.Level.{Level}
use Rattle.loop_data.specs.Locations.{CellMap}
use Rattle.loop_data.specs.Lookups.{form_at}
use Rattle.loop_data.specs.LoopWords.{AreNest}
use Rattle.loop_data.specs.Results.{class_in, class_at, AreEquations}

-- each location has the same class in both
pub record AreAlike (c d : Classes) : Type 0 where
  pub root : (r : ℕ) → class_in c.root r ≡ class_in d.root r
  pub inner : (i r : ℕ) → class_at c.inner i r ≡ class_at d.inner i r

-- two answers, over such classes
pub record AreAnswers (G : Graph) (levels : List Level) (C : CellMap) (e f : Equations) : Type 0 where
  pub nest : AreNest G levels
  pub first : Classes
  pub second : Classes
  pub alike : AreAlike first second
  pub one : AreEquations G levels C first e
  pub other : AreEquations G levels C second f

-- they have the same form for each location at each word
abbrev pub OneFormLaw : Type 0
OneFormLaw = (G : Graph) (levels : List Level) (C : CellMap) (e f : Equations) → AreAnswers G levels C e f → (u r : ℕ)
    → form_at e.points u r ≡ form_at f.points u r

-- and name the same location as unconfirmed, or none
abbrev pub OneUnconfirmedLaw : Type 0
OneUnconfirmedLaw = (G : Graph) (levels : List Level) (C : CellMap) (e f : Equations) → AreAnswers G levels C e f
    → e.unconfirmed ≡ f.unconfirmed

-- and the same duties, where each has a place for each depth
abbrev pub OneDutiesLaw : Type 0
OneDutiesLaw = (G : Graph) (levels : List Level) (C : CellMap) (e f : Equations) → AreAnswers G levels C e f
    → All (λ (d : Duty). length d.around ≡ 3) e.duties → All (λ (d : Duty). length d.around ≡ 3) f.duties
    → e.duties ≡ f.duties

-- there is an entry for each location at each word, and for each depth in each duty
pub record HasAllEntries (e : Equations) : Type 0 where
  pub points : All (λ (p : Point). length p.forms ≡ 48) e.points
  pub duties : All (λ (d : Duty). length d.around ≡ 3) e.duties

-- so that they are the same, as they are kept
abbrev pub OneEquationsLaw : Type 0
OneEquationsLaw = (G : Graph) (levels : List Level) (C : CellMap) (e f : Equations) → AreAnswers G levels C e f
    → HasAllEntries e → HasAllEntries f → e ≡ f
