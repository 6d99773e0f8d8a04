-- Where a word leads, in the form in which the search has it.
use Rattle.std.specs.Prelude.{ℕ, [], ◌∷◌}
use Rattle.rv64_decode.specs.Row.{next_pc}
use Rattle.loop_data.specs.Targets.{Targets, nowhere, steps_to, on_from, call_from, each_once}
use Rattle.flow_recovery.specs.declared.flow.Flow.{Flow}
use Rattle.flow_recovery.specs.declared.flow.Flow.TheVariants.{Stop, On, Branch, Jump, Call}

-- the targets that it tells of the word at an address
abbrev pub targets_in : ℕ → Flow → Targets
targets_in at Stop = nowhere
targets_in at On = on_from at
targets_in at (Branch target) = steps_to (each_once (next_pc at) target)
targets_in at (Jump target) = steps_to (target ∷ [])
targets_in at (Call target) = call_from at target
