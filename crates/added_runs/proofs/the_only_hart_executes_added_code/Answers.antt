use Rattle.added_runs.proofs.Leaving.{stub_law}
use Rattle.added_runs.proofs.the_only_hart_executes_added_code.Goals as goal

pub returns : goal.returns
returns c = stub_law
