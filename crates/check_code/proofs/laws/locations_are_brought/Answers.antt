use Rattle.check_code.proofs.Runs.{location_runs}
use Rattle.check_code.proofs.laws.locations_are_brought.Goals as goal

pub returns : goal.returns
returns c = λ code to p r loc h s n z l a i. location_runs code to p r loc h s n z l a i
