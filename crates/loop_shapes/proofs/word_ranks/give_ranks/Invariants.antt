use Rattle.std.proofs.Common.{◌+◌}
use Rattle.loop_shapes.specs.Net.{graph_of}
use Rattle.loop_shapes.specs.Ranks.{AreRanksBelow}
use Rattle.loop_shapes.proofs.word_ranks.give_ranks.Given as goal

abbrev pub invariant-loop-k : goal.invariant-loop-k
invariant-loop-k l = AreRanksBelow (graph_of l.net) (l.k + 1) l.ranks
