use Rattle.std.proofs.Common.{List, sym, subst}
use Rattle.loop_data.specs.declared.graph.Graph.{Graph}
use Rattle.loop_data.specs.declared.shape.Level.{Level}
use Rattle.loop_data.specs.LoopWords.{AreNest}
use Rattle.loop_data.proofs.SampleNest.{graph, sample_is_nest}
use Rattle.induction.proofs.tests.found.Goals as goal

pub classes-requires-clause-nest : goal.classes-requires-clause-nest
classes-requires-clause-nest c =
    subst (λ (G : Graph). AreNest G c.in_ok-shape.shape.levels) (sym c.in_ok-program.ensures)
    (subst (λ (ls : List Level). AreNest graph ls) (sym c.in_ok-shape.ensures) sample_is_nest)
