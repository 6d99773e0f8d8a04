use Rattle.added_runs.proofs.Counting.{count_law}
use Rattle.added_runs.proofs.the_only_hart_counts_its_events.Goals as goal

pub returns : goal.returns
returns c = count_law
