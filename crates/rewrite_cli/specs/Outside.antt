-- What the outside tells.
use Rattle.std.specs.Prelude.{ℕ, List, Option}
use Rattle.outside_ports.specs.Ports.{Files}

-- the files that a store tells, and its counts of faults and of failed saves
pub record Stored : Type 0 where
  pub files : Option Files
  pub faults : ℕ
  pub failed_saves : ℕ

-- the bytes that an input tells to be left, or an output to be written, and its count of faults
pub record Stream : Type 0 where
  pub bytes : Option (List ℕ)
  pub faults : ℕ

pub record Outside : Type 0 where
  pub store : Stored
  pub input : Stream
  pub output : Stream

abbrev pub stored : Option Files → ℕ → ℕ → Stored
stored files faults failed_saves = record { files = files; faults = faults; failed_saves = failed_saves }

abbrev pub stream : Option (List ℕ) → ℕ → Stream
stream bytes faults = record { bytes = bytes; faults = faults }

abbrev pub outside : Stored → Stream → Stream → Outside
outside store input output = record { store = store; input = input; output = output }
