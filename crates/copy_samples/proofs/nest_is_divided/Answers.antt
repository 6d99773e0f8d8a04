use Rattle.copy_samples.proofs.NestCopies.{is_divided_code, can_move, entry, joins}
use Rattle.copy_samples.proofs.nest_is_divided.Goals as goal

pub returns-clause-places : goal.returns-clause-places
returns-clause-places c =
    is_divided_code c.words_are_placed.ensures c.parts_are_in_place.ensures c.nest_may_be_copied.ensures.body c.nest_may_be_copied.ensures.ordered

pub returns-clause-moves : goal.returns-clause-moves
returns-clause-moves c = can_move

pub returns-clause-entry : goal.returns-clause-entry
returns-clause-entry c = entry

pub returns-clause-joins : goal.returns-clause-joins
returns-clause-joins c =
    joins c.a_hart_executes_its_block.ensures c.nest_may_be_copied.ensures.body c.nest_may_be_copied.ensures.divided
    (is_divided_code c.words_are_placed.ensures c.parts_are_in_place.ensures c.nest_may_be_copied.ensures.body c.nest_may_be_copied.ensures.ordered)
