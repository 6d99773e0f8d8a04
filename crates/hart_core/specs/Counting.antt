-- What is counted of a run.
use Rattle.std.specs.Prelude.{ℕ, ◌+◌, List, [], ◌∷◌, map}
use Rattle.hart_core.specs.Machine.{Hart, capped}

abbrev pub events_of : Hart → ℕ
events_of h = h.events

abbrev pub sum_of_events : List Hart → ℕ
sum_of_events [] = 0
sum_of_events (h ∷ rest) = h.events + sum_of_events rest

-- the events of all harts that have done something
abbrev pub steps_of : List Hart → ℕ
steps_of harts = capped (sum_of_events harts)
