use Rattle.divided_loops.proofs.Joining.{judged_law}
use Rattle.divided_loops.proofs.judged_loops_are_divided_by_their_code.Goals as goal

pub returns : goal.returns
returns c =
    judged_law c.judged_values_are_short.ensures.copies c.judged_values_are_short.ensures.moves c.judged_loops_can_be_divided.ensures c.judged_checks_are_told.ensures.checkable
    c.plans_can_be_asked.ensures c.held_turns_are_independent.ensures.independent c.added_code_does_what_its_loop_does.ensures
