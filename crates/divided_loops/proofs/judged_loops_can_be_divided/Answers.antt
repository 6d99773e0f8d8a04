use Rattle.divided_loops.proofs.Judging.{divided_law}
use Rattle.divided_loops.proofs.judged_loops_can_be_divided.Goals as goal

pub returns : goal.returns
returns c =
    let had = c.states_have_the_program.ensures in
    divided_law c.cells_are_found.ensures.bases c.cells_are_found.ensures.offsets c.held_turns_are_independent.ensures.independent had.program had.words had.stored
