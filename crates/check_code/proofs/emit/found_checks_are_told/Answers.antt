use Rattle.check_code.proofs.Found.{found}
use Rattle.check_code.proofs.emit.found_checks_are_told.Goals as goal

pub returns : goal.returns
returns c = found
