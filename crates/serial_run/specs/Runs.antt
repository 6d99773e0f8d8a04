-- What a run makes of a machine and of the source and the sink that go with it, also where one of
-- these meets a fault.
use Rattle.std.specs.Prelude.{ℕ, suc, ◌≡◌, ◌≢◌, ◌<◌, ◌≤◌, ◌%◌, ◌++◌, ◌⊎◌, Bool, true, false, Option, Some, None, List, take, IsNone}
use Rattle.outside_ports.specs.Ports.{Rose}
use Rattle.rv64_decode.specs.declared.instr.Instr.{Instr}
use Rattle.rv64_decode.specs.declared.instr.Instr.TheVariants.{Ecall}
use Rattle.guest_calls.specs.Calls.{Called, called, a1, a2, a7}
use Rattle.guest_calls.specs.Faults.{ChangesInBuffer, SendsPart}
use Rattle.serial_run.specs.Serial.{State, ended, serial}
use Rattle.rv64_decode.specs.Fetched.{instr_at}
use Rattle.serial_run.specs.declared.machine.Machine.{Machine}
use Rattle.serial_run.specs.declared.machine.End.{End}
use Rattle.serial_run.specs.declared.machine.End.TheVariants.{Exited, Faulted, Spent, ReadFault, WriteFault}

abbrev pub from_outside : End → Bool
from_outside (Exited code) = false
from_outside (Faulted kind pc addr) = false
from_outside Spent = false
from_outside ReadFault = true
from_outside WriteFault = true

-- the source or the sink met a fault
abbrev pub is_port_fault : Option End → Bool
is_port_fault None = false
is_port_fault (Some end) = from_outside end

-- a machine, what its source tells of its rest and its sink of what was written, and the counts of
-- their faults
pub record Configuration : Type 0 where
  pub machine : Machine
  pub rest : Option (List ℕ)
  pub read_faults : ℕ
  pub written : Option (List ℕ)
  pub write_faults : ℕ

abbrev pub configuration_of : Machine → Option (List ℕ) → ℕ → Option (List ℕ) → ℕ → Configuration
configuration_of machine rest read_faults written write_faults =
    record { machine = machine; rest = rest; read_faults = read_faults; written = written; write_faults = write_faults }

-- what holds of every run: where it comes to, and that only a fault of a port gives that ending
pub record Keeps (c d : Configuration) : Type 0 where
  pub aligned : c.machine.pc % 4 ≡ 0 → d.machine.pc % 4 ≡ 0
  pub unspent : c.machine.ended ≢ Some Spent → d.machine.ended ≢ Some Spent
  pub read_fault : d.machine.ended ≡ Some ReadFault
      → (c.machine.ended ≡ Some ReadFault) ⊎ Rose c.read_faults d.read_faults
  pub write_fault : d.machine.ended ≡ Some WriteFault
      → (c.machine.ended ≡ Some WriteFault) ⊎ Rose c.write_faults d.write_faults
  pub input_never_falls : c.read_faults ≤ d.read_faults
  pub output_never_falls : c.write_faults ≤ d.write_faults

-- a machine's number of a call is this
abbrev pub CallsNumber : ℕ → Machine → Type 0
CallsNumber n m = a7 m.regs ≡ n

-- the instruction is the call of this number
abbrev pub DoesCall : Instr → ℕ → Machine → Type 0
DoesCall i n m = (i ≡ Ecall) × CallsNumber n m

-- the instruction at pc is the call of this number
pub record StandsAtCall (n : ℕ) (m : Machine) : Type 0 where
  pub instr : instr_at m.memory m.pc ≡ Some Ecall
  pub number : CallsNumber n m

-- the source tells what is unread at a state, where one of n instructions from there on reads (63)
abbrev pub TellsReads : ℕ → State → Option (List ℕ) → Type 0
TellsReads n s told =
    (k : ℕ) → k < n → IsNone (ended (serial k s)) → StandsAtCall 63 (serial k s).machine → told ≡ Some s.rest

-- none of n instructions from a state on is the call of this number
abbrev pub NeverCalls : ℕ → ℕ → State → Type 0
NeverCalls number n s = (k : ℕ) → k < n → IsNone (ended (serial k s)) → ¬ StandsAtCall number (serial k s).machine

-- what the call at a state does, if there is one
abbrev pub call_at : State → Called
call_at s = called s.machine.regs s.machine.memory s.machine.brk s.rest

-- the source met a fault in the call at a machine: nothing but bytes of the guest's buffer has changed
pub record StopsReading (m n : Machine) : Type 0 where
  pub buffer : ChangesInBuffer m.memory (a1 m.regs) (a2 m.regs) n.memory
  pub others : n ≡ record m { memory = n.memory; ended = Some ReadFault }

-- the sink met a fault in the call at a machine: nothing has changed
abbrev pub StopsWriting : Machine → Machine → Type 0
StopsWriting m n = n ≡ record m { ended = Some WriteFault }

-- what is told was written is `old` and a first part of what `new` has behind it
pub record WritesPart (old new : List ℕ) (written : Option (List ℕ)) : Type 0 where
  pub bytes : List ℕ
  pub grown : new ≡ old ++ bytes
  pub count : ℕ
  pub are : written ≡ Some (old ++ take count bytes)

-- one instruction of a machine without an ending, with the calls that it may be. Where no port met a
-- fault, each state has come to the one that it leads to; the source need tell its rest for a read
-- alone. A fault of the source is met in a read and one of the sink in a write (64), and it leaves all as
-- it was, but that a first part of what the instruction appends has gone out
pub record Acts (AtCall : ℕ → Machine → Type 0) (to : State → State) (c d : Configuration) : Type 0 where
  pub machine : (s : State) → c.machine ≡ s.machine → (AtCall 63 c.machine → c.rest ≡ Some s.rest)
      → is_port_fault d.machine.ended ≡ false → d.machine ≡ (to s).machine
  pub rest : (s : State) → c.machine ≡ s.machine → c.rest ≡ Some s.rest
      → is_port_fault d.machine.ended ≡ false → d.rest ≡ Some (to s).rest
  pub output : (s : State) → c.machine ≡ s.machine
      → is_port_fault d.machine.ended ≡ false → c.written ≡ Some s.output → d.written ≡ Some (to s).output
  pub at_read : d.machine.ended ≡ Some ReadFault → AtCall 63 d.machine
  pub at_write : d.machine.ended ≡ Some WriteFault → AtCall 64 d.machine
  pub reading : d.machine.ended ≡ Some ReadFault → StopsReading c.machine d.machine
  pub writing : d.machine.ended ≡ Some WriteFault → StopsWriting c.machine d.machine
  pub unread : d.machine.ended ≡ Some WriteFault → d.rest ≡ c.rest
  pub sent : (s : State) → c.machine ≡ s.machine → is_port_fault d.machine.ended ≡ true
      → c.written ≡ Some s.output → WritesPart s.output (to s).output d.written

-- of at most n instructions from a state on, a port met a fault in the one behind `count` others, and
-- nothing more was read or written
pub record StopsWithin (n : ℕ) (s : State) (c d : Configuration) : Type 0 where
  pub count : ℕ
  pub below : count < n
  pub running : IsNone (ended (serial count s))
  pub reading : d.machine.ended ≡ Some ReadFault → StopsReading (serial count s).machine d.machine
  pub writing : d.machine.ended ≡ Some WriteFault → StopsWriting (serial count s).machine d.machine
  pub unread : d.machine.ended ≡ Some WriteFault → c.rest ≡ Some s.rest → d.rest ≡ Some (serial count s).rest
  pub sent : (before : List ℕ) → c.written ≡ Some (before ++ s.output)
      → WritesPart (before ++ (serial count s).output) (before ++ (serial (suc count) s).output) d.written
  pub part : (before : List ℕ) → c.written ≡ Some (before ++ s.output)
      → SendsPart before (serial n s).output d.written

-- a run of at most n instructions. Where no port met a fault, each state has come to the one behind n
-- instructions, and its output stands behind what was written before it. Where one did, the machine
-- stands at the call in which it was met
pub record Runs (n : ℕ) (c d : Configuration) : Type 0 where
  pub machine : (s : State) → c.machine ≡ s.machine → TellsReads n s c.rest
      → is_port_fault d.machine.ended ≡ false → d.machine ≡ (serial n s).machine
  pub rest : (s : State) → c.machine ≡ s.machine → c.rest ≡ Some s.rest
      → is_port_fault d.machine.ended ≡ false → d.rest ≡ Some (serial n s).rest
  pub output : (s : State) (before : List ℕ) → c.machine ≡ s.machine → TellsReads n s c.rest
      → is_port_fault d.machine.ended ≡ false → c.written ≡ Some (before ++ s.output)
      → d.written ≡ Some (before ++ (serial n s).output)
  pub at_read : IsNone c.machine.ended → d.machine.ended ≡ Some ReadFault → StandsAtCall 63 d.machine
  pub at_write : IsNone c.machine.ended → d.machine.ended ≡ Some WriteFault → StandsAtCall 64 d.machine
  pub stops : (s : State) → c.machine ≡ s.machine → TellsReads n s c.rest → IsNone c.machine.ended
      → is_port_fault d.machine.ended ≡ true → StopsWithin n s c d
