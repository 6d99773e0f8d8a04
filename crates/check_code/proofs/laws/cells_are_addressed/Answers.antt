use Rattle.check_code.proofs.Runs.{address_runs}
use Rattle.check_code.proofs.laws.cells_are_addressed.Goals as goal

pub returns : goal.returns
returns c = λ code to p r x regs h s n w room holds a i. address_runs code to p r x regs h s n w room holds a i
