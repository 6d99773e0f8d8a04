use Rattle.serial_run.proofs.Sound.{states_sound}
use Rattle.serial_run.proofs.laws.states_are_sound.Goals as goal

pub returns : goal.returns
returns c = states_sound
