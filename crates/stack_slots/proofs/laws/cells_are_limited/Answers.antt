use Rattle.stack_slots.proofs.Decided.{fault_law, few_law}
use Rattle.stack_slots.proofs.laws.cells_are_limited.Goals as goal

pub returns-clause-fault : goal.returns-clause-fault
returns-clause-fault c = fault_law

pub returns-clause-few : goal.returns-clause-few
returns-clause-few c = few_law
