use Rattle.entered_loops.proofs.Whole.{whole_law}
use Rattle.entered_loops.proofs.serial_states_are_whole.Goals as goal

pub returns : goal.returns
returns c = whole_law c.states_are_sound.ensures
