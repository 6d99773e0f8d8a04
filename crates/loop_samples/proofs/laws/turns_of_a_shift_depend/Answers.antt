use Rattle.loop_samples.specs.ShiftLoop.{shift_loop, shifting}
use Rattle.loop_samples.proofs.Tests.{no_cells_kept}
use Rattle.loop_samples.proofs.Shifting.{turns, locations, not_apart}
use Rattle.loop_samples.proofs.laws.turns_of_a_shift_depend.Goals as goal

pub returns-clause-turns : goal.returns-clause-turns
returns-clause-turns c = turns

pub returns-clause-cells : goal.returns-clause-cells
returns-clause-cells c = no_cells_kept shift_loop shifting 2

pub returns-clause-locations : goal.returns-clause-locations
returns-clause-locations c = locations

pub returns-clause-not : goal.returns-clause-not
returns-clause-not c = not_apart
