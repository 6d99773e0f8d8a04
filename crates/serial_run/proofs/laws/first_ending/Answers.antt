use Rattle.serial_run.proofs.Steps.{executed-ending, ending-serial, ending-executed}
use Rattle.serial_run.proofs.laws.first_ending.Goals as goal

pub returns-clause-found : goal.returns-clause-found
returns-clause-found c = executed-ending

pub returns-clause-only : goal.returns-clause-only
returns-clause-only c = λ fuel n s t i l. (ending-serial s t n fuel i l, ending-executed s t n fuel i l)
