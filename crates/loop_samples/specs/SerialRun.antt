-- The run of the definitions of turns beside the serial run.
use Rattle.std.specs.Prelude.{◌≡◌, None}
use Rattle.rv64_decode.specs.declared.outcome.Next.TheVariants.{At}
use Rattle.loop_data.specs.Runs.{State}
use Rattle.serial_run.specs.Serial.{State as SerialState, ended}

-- pc, the registers and the memory of a machine
abbrev pub state_in : SerialState → State
state_in s = record { next = At s.machine.pc; regs = s.machine.regs; memory = s.machine.memory }

-- r is the state of the machine t, which has no ending, and since s nothing was written, nothing was read
-- and the break has not moved
pub record IsSerial (r : State) (s t : SerialState) : Type 0 where
  pub state : r ≡ state_in t
  pub running : ended t ≡ None
  pub output : t.output ≡ s.output
  pub rest : t.rest ≡ s.rest
  pub break : t.machine.brk ≡ s.machine.brk
