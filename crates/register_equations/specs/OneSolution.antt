-- The equations of a nest have one solution.
use Rattle.std.specs.Prelude.{ℕ, ◌≡◌, Option}
use Rattle.linear_forms.specs.Forms.{LinearForm}
use Rattle.loop_data.specs.declared.shape.Level.{Level}
use Rattle.loop_data.specs.Nests.{Nest, Holds, IsNest}
use Rattle.loop_data.specs.Independent.{Role}
use Rattle.loop_data.specs.LoopCode.{LoopCode}
use Rattle.loop_data.specs.Equations.{AreForms}

-- there is a solution, whatever roles the loops give the locations
abbrev pub SomeSolutionLaw : Type 0
SomeSolutionLaw = (N : Nest) (B : LoopCode) (roles : Level → ℕ → Role) → IsNest N
    → (at : ℕ → ℕ → Option LinearForm) × AreForms N B roles at

-- two solutions agree at each word of the nest
abbrev pub OneSolutionLaw : Type 0
OneSolutionLaw = (N : Nest) (B : LoopCode) (roles : Level → ℕ → Role) (one other : ℕ → ℕ → Option LinearForm) → IsNest N
    → AreForms N B roles one → AreForms N B roles other → (v r : ℕ) → Holds N.root v → one v r ≡ other v r
