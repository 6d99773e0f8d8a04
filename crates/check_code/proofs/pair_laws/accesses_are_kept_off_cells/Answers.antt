use Rattle.check_code.proofs.Decided.{keep_off_runs}
use Rattle.check_code.proofs.pair_laws.accesses_are_kept_off_cells.Goals as goal

pub returns : goal.returns
returns c = λ code to p d a regs h s n o b f l y z x i. keep_off_runs code to p d a regs h s n o b f l y z x i
