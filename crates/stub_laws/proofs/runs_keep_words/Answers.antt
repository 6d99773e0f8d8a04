use Rattle.stub_laws.proofs.SoundRuns.{sound_runs}
use Rattle.stub_laws.proofs.runs_keep_words.Goals as goal

pub returns : goal.returns
returns c =
    sound_runs c.decoded_fields_are_in_range.ensures c.instructions_keep_words.ensures.registers
    c.instructions_keep_words.ensures.bytes c.instructions_keep_words.ensures.write c.instructions_keep_words.ensures.read
