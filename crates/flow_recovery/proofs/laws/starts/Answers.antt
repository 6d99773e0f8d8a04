use Rattle.loop_data.proofs.FromStarts.{from_starts}
use Rattle.flow_recovery.proofs.laws.starts.Goals as goal

pub returns : goal.returns
returns c = from_starts
