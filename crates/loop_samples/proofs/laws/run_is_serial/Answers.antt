use Rattle.loop_samples.proofs.SerialRun.{run_is_serial}
use Rattle.loop_samples.proofs.laws.run_is_serial.Goals as goal

pub returns : goal.returns
returns c = run_is_serial
