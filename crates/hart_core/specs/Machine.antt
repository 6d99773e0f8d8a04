-- The machine of several harts: each has its own part, and all share memory, the break, the input and the
-- output. Hart 0 runs the original, and leaves it at entries for the added code.
use Rattle.std.specs.Prelude.{ℕ, ◌^◌, ◌-◌, ◌+◌, min, List, Option}
use Rattle.rv64_decode.specs.Area.{Area}
use Rattle.guest_calls.specs.declared.Brk.{Brk}
use Rattle.serial_run.specs.Serial.{State as Serial, state_of}
use Rattle.serial_run.specs.declared.machine.Machine.{Machine}
use Rattle.serial_run.specs.declared.machine.End.{End}
use Rattle.image_writer.specs.declared.image.Image.{Image}
use Rattle.hart_core.specs.declared.counts.LoopCount.{LoopCount}

-- what a hart is about to do: execute words of the original, or of added code; the word of the header that it has
-- gone back to, at which it does not leave again; nothing, until all others are idle; nothing, until the next fork
pub data Mode : Type 0 where
  Free : Mode
  Stub : Mode
  Passing : Mode
  Waiting : Mode
  Idle : Mode

-- where hart 0 stands: at the first word of the stub of an entry, which it has just arrived at; behind a fork, if
-- that was the last that happened; or elsewhere
pub data Place : Type 0 where
  Arrived : (entry : ℕ) → Place
  Forked : Place
  Elsewhere : Place

-- a hart's own part
pub record Hart : Type 0 where
  pub pc : ℕ
  pub regs : List ℕ
  pub slots : List ℕ
  pub mode : Mode
  -- the number of the entry at which it left the original last
  pub kept : ℕ
  -- how many events of it have done something
  pub events : ℕ

-- the machine but for its input and its output
pub record Core : Type 0 where
  pub harts : List Hart
  pub memory : List Area
  pub brk : Brk
  -- how the run has ended, if it has
  pub ended : Option End
  pub image : Image
  -- the counts of each entry
  pub loops : List LoopCount
  pub place : Place

-- with the bytes written so far, and those of the input that are not read
pub record State : Type 0 where
  pub core : Core
  pub output : List ℕ
  pub rest : List ℕ

-- a count stands still at its type's end
abbrev pub capped : ℕ → ℕ
capped n = min n (2 ^ 64 - 1)

-- the hart with one more event
abbrev pub counted : Hart → Hart
counted h = record h { events = capped (h.events + 1) }

-- the serial machine whose one hart is this, over what is shared
abbrev pub alone : Core → Hart → Machine
alone c h = record { pc = h.pc; regs = h.regs; memory = c.memory; brk = c.brk; ended = c.ended }

abbrev pub alone_in : State → Hart → Serial
alone_in s h = state_of (alone s.core h) s.output s.rest
