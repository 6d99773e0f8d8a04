use Rattle.loop_samples.proofs.Misfits.{covers_is}
use Rattle.loop_samples.proofs.laws.bytes_of_an_access.Goals as goal

pub returns : goal.returns
returns c = covers_is
