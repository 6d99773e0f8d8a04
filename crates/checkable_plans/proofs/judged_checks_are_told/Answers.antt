use Rattle.checkable_plans.proofs.Judged.{judged_room, judged_checkable}
use Rattle.checkable_plans.proofs.judged_checks_are_told.Goals as goal

pub returns-clause-room : goal.returns-clause-room
returns-clause-room c = judged_room c.plans_can_be_asked.ensures c.areas_have_room.ensures c.found_checks_are_told.ensures

pub returns-clause-checkable : goal.returns-clause-checkable
returns-clause-checkable c = judged_checkable c.found_checks_are_told.ensures
