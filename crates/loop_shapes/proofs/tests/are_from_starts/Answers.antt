use Rattle.std.proofs.Common.{Bool, List, sym, subst}
use Rattle.loop_shapes.specs.StartFlags.{AreFlagsFromStarts}
use Rattle.loop_shapes.proofs.Spreading.{spread_start}
use Rattle.loop_shapes.proofs.tests.are_from_starts.Goals as goal

pub spread_until_set-requires-clause-from : goal.spread_until_set-requires-clause-from
spread_until_set-requires-clause-from c = subst (λ (bs : List Bool). AreFlagsFromStarts c.args.graph.now bs) (sym c.deref_mut.ensures.value) (spread_start c.args.graph.now c.in_ok-flags.flags.items c.in_ok-flags.ensures)
