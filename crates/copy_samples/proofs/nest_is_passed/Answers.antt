use Rattle.copy_samples.proofs.NestCopies.{begins, passes}
use Rattle.copy_samples.proofs.nest_is_passed.Goals as goal

pub returns-clause-begins : goal.returns-clause-begins
returns-clause-begins c = begins

pub returns-clause-passes : goal.returns-clause-passes
returns-clause-passes c = passes c.a_passage_is_a_turn.ensures.passage c.nest_may_be_copied.ensures.body c.nest_may_be_copied.ensures.divided c.nest_is_copied.ensures
