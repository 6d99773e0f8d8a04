-- A loop has one trip.
use Rattle.std.specs.Prelude.{ℕ, ◌≡◌, ◌<◌, List, length, Option}
use Rattle.linear_forms.specs.Forms.{LinearForm}
use Rattle.loop_data.specs.declared.graph.Graph.{Graph}
use Rattle.loop_data.specs.declared.shape.Level.{Level}
use Rattle.loop_data.specs.declared.trips.Trip.{Trip}
use Rattle.loop_data.specs.Trips.{IsTripAt}

-- two answers for the trip of a level, a trip or none, are the same
abbrev pub OneTripLaw : Type 0
OneTripLaw = (G : Graph) (levels : List Level) (at : ℕ → ℕ → Option LinearForm) (place : ℕ) (o p : Option Trip)
    → place < length levels → IsTripAt G levels at place o → IsTripAt G levels at place p → o ≡ p
