use Rattle.std.proofs.Common.{◌≡◌, ◌≢◌, ℕ, [], take}
use Rattle.loop_data.specs.Bodies.{InBody}
use Rattle.loop_shapes.specs.Gains.{Gained}
use Rattle.loop_shapes.specs.Program.{program_graph}
use Rattle.loop_shapes.proofs.Gains.{Among}
use Rattle.loop_shapes.proofs.nest.round_of.Given as goal

abbrev pub invariant-loop-round : goal.invariant-loop-round
invariant-loop-round l = Gained (Among (λ (x z : ℕ). (z ≡ x) × ((x ≢ l.x) × InBody (program_graph l.program) x l.x)) (take l.round-index l.nest)) [] l.all.items
