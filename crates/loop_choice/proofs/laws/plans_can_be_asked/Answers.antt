use Rattle.loop_choice.proofs.Asking.{can_be_asked}
use Rattle.loop_choice.proofs.laws.plans_can_be_asked.Goals as goal

pub returns : goal.returns
returns c = can_be_asked c.cells_are_found.ensures.bases c.cells_are_found.ensures.offsets c.bounds_tell_areas.ensures.start
