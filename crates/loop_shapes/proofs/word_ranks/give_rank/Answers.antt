use Rattle.std.proofs.Common.{get_or, refl}
use Rattle.std.proofs.lemmas.Bool.{false≢true}
use Rattle.loop_data.specs.Flows.{rows}
use Rattle.loop_shapes.specs.Net.{graph_of}
use Rattle.loop_shapes.proofs.RankedEdges.{rank_given, without_rank}
use Rattle.loop_shapes.proofs.word_ranks.give_rank.Goals as goal

pub returns : goal.returns
returns c = rank_given (graph_of c.args.net.now) (rows c.args.net.now.before.items) c.requires.net.sources c.args.ranks.now c.args.place c.args.rank c.requires.within c.requires.above (without_rank (get_or c.args.ranks.now c.args.place 0) (λ l. false≢true (c.if-is_ranked.ensures.1 l))) c.requires.ranks (c.if-not-may_have_rank.ensures refl)
