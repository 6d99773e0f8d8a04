use Rattle.check_code.proofs.Asked.{allowed_all, slot_of_form}
use Rattle.check_code.proofs.tests.step.Goals as goal

pub exec_x-requires-clause-slot : goal.exec_x-requires-clause-slot
exec_x-requires-clause-slot c = slot_of_form c.in-Some.i c.in-Some.ensures.form

pub exec_x-requires-clause-access : goal.exec_x-requires-clause-access
exec_x-requires-clause-access c = allowed_all _ (λ a. tt) _
