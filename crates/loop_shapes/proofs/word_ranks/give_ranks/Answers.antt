use Rattle.std.proofs.Common.{◌-◌, ◌+◌, length, get_or, arith}
use Rattle.std.proofs.lemmas.List.Elements.{Contains-get_or}
use Rattle.loop_shapes.specs.Net.{graph_of}
use Rattle.loop_shapes.proofs.RankedEdges.{ranks_none}
use Rattle.loop_shapes.proofs.word_ranks.give_ranks.Goals as goal

pub loop-k-init : goal.loop-k-init
loop-k-init c = ranks_none (graph_of c.args.net.now) c.args.ranks.now c.requires.none

pub give_rank-requires-clause-within : goal.give_rank-requires-clause-within
give_rank-requires-clause-within c =
    let t = c.loop-k-test.true in
    c.requires.within _ (Contains-get_or c.args.places.now (length c.args.places.now - 1 - c.loop-k.k) 0 (omega arith))
