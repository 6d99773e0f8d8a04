use Rattle.std.proofs.Common.{List, sym, subst}
use Rattle.loop_data.specs.declared.graph.Graph.{Graph}
use Rattle.loop_data.specs.declared.shape.Level.{Level}
use Rattle.loop_data.specs.LoopWords.{AreNest}
use Rattle.loop_data.proofs.SampleNest.{graph, sample_is_nest}
use Rattle.stack_slots.proofs.tests.cells_of_a_nest.Goals as goal

pub cells-requires-clause-nest : goal.cells-requires-clause-nest
cells-requires-clause-nest g c =
    subst (λ (G : Graph). AreNest G c.in_ok-levels.levels) (sym c.in_ok-graph.ensures)
    (subst (λ (ls : List Level). AreNest graph ls) (sym c.in_ok-levels.ensures) sample_is_nest)
