use Rattle.serial_run.proofs.Stops.{step_halts}
use Rattle.serial_run.proofs.laws.faults_change_nothing.Goals as goal

pub returns-clause-stays : goal.returns-clause-stays
returns-clause-stays c = λ s kind pc addr none e. (step_halts s kind pc addr none e).same

pub returns-clause-place : goal.returns-clause-place
returns-clause-place c = λ s kind pc addr none e. (step_halts s kind pc addr none e).place
