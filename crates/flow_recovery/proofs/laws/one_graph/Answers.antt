use Rattle.flow_recovery.proofs.Unique.{same_graphs}
use Rattle.flow_recovery.proofs.laws.one_graph.Goals as goal

pub returns : goal.returns
returns c = same_graphs
