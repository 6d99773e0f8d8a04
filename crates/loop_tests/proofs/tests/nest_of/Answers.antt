use Rattle.loop_tests.proofs.Listed.{nest_at}
use Rattle.loop_tests.proofs.tests.nest_of.Goals as goal

pub loops-requires-clause-from_starts : goal.loops-requires-clause-from_starts
loops-requires-clause-from_starts c = c.starts.ensures c.in-Ok.elf c.in-Ok-recover.graph c.in-Ok-recover.ensures.graph

pub returns-clause-nest : goal.returns-clause-nest
returns-clause-nest c =
    nest_at c.in-Ok.elf c.in-Ok-recover.graph c.in_ok-shapes.shapes.items c.as_slice-2.result.now c.in-Some.place
    c.swap_remove-shape.result c.nests.ensures c.in-Ok-recover.ensures.graph c.in_ok-shapes.ensures
    c.as_slice-2.ensures.value c.in-Some.ensures.within c.swap_remove-shape.ensures.value c.in-Some.ensures.free
