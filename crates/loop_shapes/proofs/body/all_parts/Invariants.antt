use Rattle.std.proofs.Common.{take}
use Rattle.loop_shapes.specs.Gains.{HasAll}
use Rattle.loop_shapes.specs.Net.{IsPartOf, graph_of}
use Rattle.loop_shapes.proofs.body.all_parts.Given as goal

abbrev pub invariant-loop-source : goal.invariant-loop-source
invariant-loop-source l = HasAll (IsPartOf (graph_of l.net) l.header (take l.source-index l.closed)) l.all.items
