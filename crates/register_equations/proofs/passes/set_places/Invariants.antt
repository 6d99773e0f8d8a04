use Rattle.std.proofs.Common.{◌≡◌, ℕ, ◌<◌, map, get_or}
use Rattle.loop_data.specs.Points.{Point}
use Rattle.loop_data.specs.Lookups.{cell_map}
use Rattle.loop_data.specs.LoopCode.{code_of}
use Rattle.register_equations.specs.States.{IsFormPlace}
use Rattle.register_equations.proofs.passes.set_places.Given as goal

abbrev pub invariant-loop-i : goal.invariant-loop-i
invariant-loop-i l = (map (λ (p : Point). p.at) l.points ≡ map (λ (p : Point). p.at) l.initial.points) × ((j : ℕ) → j < l.i → IsFormPlace (code_of l.graph (cell_map l.cells)) l.levels l.inner l.root l.classes l.flow l.points (get_or l.order j 0))
