use Rattle.copy_samples.proofs.NestCopies.{is_copied}
use Rattle.copy_samples.proofs.nest_is_copied.Goals as goal

pub returns : goal.returns
returns c = is_copied c.words_are_placed.ensures c.copies_stand_in_order.ensures.copies c.nest_may_be_copied.ensures.body c.nest_may_be_copied.ensures.ordered
