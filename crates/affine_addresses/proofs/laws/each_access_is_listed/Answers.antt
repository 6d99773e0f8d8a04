use Rattle.affine_addresses.proofs.Values.{cell_law, each_law}
use Rattle.affine_addresses.proofs.laws.each_access_is_listed.Goals as goal

pub returns-clause-cells : goal.returns-clause-cells
returns-clause-cells c = cell_law

pub returns-clause-each : goal.returns-clause-each
returns-clause-each c = each_law
