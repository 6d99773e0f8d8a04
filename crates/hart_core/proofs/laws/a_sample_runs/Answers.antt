use Rattle.std.proofs.Common.{refl}
use Rattle.rv64_decode.specs.XTable.{decoded_x}
use Rattle.serial_run.specs.Serial.{step}
use Rattle.hart_core.specs.Entering.{entry_at}
use Rattle.hart_core.specs.Events.{added_word, after_event}
use Rattle.hart_core.proofs.laws.a_sample_runs.Goals as goal

pub returns : goal.returns
unfolding decoded_x step entry_at added_word after_event
returns c = record { modes = refl; pcs = refl; numbers = refl; events = refl; loops = refl; place = refl }
