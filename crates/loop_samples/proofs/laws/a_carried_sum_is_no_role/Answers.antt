use Rattle.loop_samples.specs.SumLoop.{sum_loop, powers}
use Rattle.loop_samples.proofs.Tests.{no_cells_kept}
use Rattle.loop_samples.proofs.Summing.{turns, apart, no_roles}
use Rattle.loop_samples.proofs.laws.a_carried_sum_is_no_role.Goals as goal

pub returns-clause-turns : goal.returns-clause-turns
returns-clause-turns c = turns

pub returns-clause-cells : goal.returns-clause-cells
returns-clause-cells c = no_cells_kept sum_loop powers 2

pub returns-clause-apart : goal.returns-clause-apart
returns-clause-apart c = apart

pub returns-clause-not : goal.returns-clause-not
returns-clause-not c = no_roles
