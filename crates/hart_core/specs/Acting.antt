-- What one event makes of the machine and of the source and the sink that go with it, also where one of these meets
-- a fault.
use Rattle.std.specs.Prelude.{ℕ, ◌≡◌, ◌≢◌, ◌≤◌, ◌⊎◌, Bool, true, false, List, slice_get, Option, Some, None}
use Rattle.outside_ports.specs.Ports.{Rose}
use Rattle.rv64_decode.specs.Area.{Area}
use Rattle.rv64_decode.specs.Fetched.{instr_at}
use Rattle.rv64_decode.specs.XTable.{decoded_x}
use Rattle.rv64_decode.specs.declared.instr.Instr.{Instr}
use Rattle.rv64_decode.specs.declared.instr.Instr.TheVariants.{Ecall}
use Rattle.rv64_decode.specs.declared.xinstr.XInstr.{XInstr}
use Rattle.rv64_decode.specs.declared.xinstr.XInstr.TheVariants.{Base, Put, Get, Par, Join, Back, Id, Harts}
use Rattle.guest_calls.specs.Calls.{a1, a2, a7}
use Rattle.guest_calls.specs.Faults.{ChangesInBuffer}
use Rattle.serial_run.specs.Runs.{is_port_fault, WritesPart}
use Rattle.serial_run.specs.declared.machine.Machine.{Machine}
use Rattle.serial_run.specs.declared.machine.End.{End}
use Rattle.serial_run.specs.declared.machine.End.TheVariants.{Spent, ReadFault, WriteFault}
use Rattle.hart_core.specs.Machine.{Mode, Free, Stub, Passing, Waiting, Idle, Hart, Core, State, alone}
use Rattle.hart_core.specs.Rows.{after_own, after_base}
use Rattle.hart_core.specs.Events.{added_word, after_event}

-- the machine, what its source tells of its rest and its sink of what was written, and the counts of their faults
pub record Configuration : Type 0 where
  pub core : Core
  pub rest : Option (List ℕ)
  pub read_faults : ℕ
  pub written : Option (List ℕ)
  pub write_faults : ℕ

abbrev pub configuration_of : Core → Option (List ℕ) → ℕ → Option (List ℕ) → ℕ → Configuration
configuration_of core rest read_faults written write_faults =
    record { core = core; rest = rest; read_faults = read_faults; written = written; write_faults = write_faults }

abbrev pub is_free : Mode → Bool
is_free Free = true
is_free Stub = false
is_free Passing = true
is_free Waiting = false
is_free Idle = false

-- hart k of a machine without an ending is about to execute a word of the original
pub record GoesFree (c : Core) (k : ℕ) : Type 0 where
  pub hart : Hart
  pub stands : slice_get c.harts k ≡ Some hart
  pub free : is_free hart.mode ≡ true
  pub running : c.ended ≡ None

-- or one of added code
pub record GoesInStub (c : Core) (k : ℕ) : Type 0 where
  pub hart : Hart
  pub stands : slice_get c.harts k ≡ Some hart
  pub stub : hart.mode ≡ Stub
  pub running : c.ended ≡ None

abbrev pub base_of : Option XInstr → Option Instr
base_of None = None
base_of (Some (Base i)) = Some i
base_of (Some (Put slot rs1)) = None
base_of (Some (Get rd slot)) = None
base_of (Some Par) = None
base_of (Some Join) = None
base_of (Some Back) = None
base_of (Some (Id rd)) = None
base_of (Some (Harts rd)) = None

abbrev pub base_in : Option ℕ → Option Instr
base_in None = None
base_in (Some word) = base_of (decoded_x word)

-- the ordinary instruction that a hart executes next, if it does
abbrev pub instr_by : Mode → Core → Hart → Option Instr
instr_by Free c h = instr_at c.memory h.pc
instr_by Stub c h = base_in (added_word c.image.code h.pc)
instr_by Passing c h = instr_at c.memory h.pc
instr_by Waiting c h = None
instr_by Idle c h = None

-- the call of a number is what a hart executes next
pub record IsCall (n : ℕ) (c : Core) (h : Hart) : Type 0 where
  pub instr : instr_by h.mode c h ≡ Some Ecall
  pub number : a7 h.regs ≡ n

-- hart k, which is this, executes it next
pub record StandsAtCall (n : ℕ) (c : Core) (k : ℕ) (h : Hart) : Type 0 where
  pub hart : slice_get c.harts k ≡ Some h
  pub call : IsCall n c h

-- none executes it
abbrev pub NeverCalls : ℕ → Core → ℕ → Type 0
NeverCalls n c k = (h : Hart) → ¬ StandsAtCall n c k h

-- the source tells what is unread, where hart k reads (63)
abbrev pub TellsRead : State → ℕ → Option (List ℕ) → Type 0
TellsRead s k told = (h : Hart) → StandsAtCall 63 s.core k h → told ≡ Some s.rest

-- the core once an ordinary word of hart k has left this machine, by where the word stands
abbrev pub settled_by : Mode → Core → ℕ → Hart → Machine → Core
settled_by Free c k h m = after_own c k h m
settled_by Stub c k h m = after_base c k h m
settled_by Passing c k h m = after_own c k h m
settled_by Waiting c k h m = c
settled_by Idle c k h m = c

-- hart k, which is this, has met a fault of a port in a call: its memory is what it has become, and all else is as it
-- was, but for what is counted
abbrev pub stopped : Core → ℕ → Hart → List Area → End → Core
stopped c k h memory end = settled_by h.mode c k h (record (alone c h) { memory = memory; ended = Some end })

-- the source met a fault in a read: nothing but bytes of the guest's buffer has changed
pub record StopsReading (k : ℕ) (c d : Core) : Type 0 where
  pub hart : Hart
  pub stands : slice_get c.harts k ≡ Some hart
  pub call : IsCall 63 d hart
  pub buffer : ChangesInBuffer c.memory (a1 hart.regs) (a2 hart.regs) d.memory
  pub others : d ≡ stopped c k hart d.memory ReadFault

-- the sink met a fault in a write: nothing has changed
pub record StopsWriting (k : ℕ) (c d : Core) : Type 0 where
  pub hart : Hart
  pub stands : slice_get c.harts k ≡ Some hart
  pub call : IsCall 64 d hart
  pub others : d ≡ stopped c k hart c.memory WriteFault

-- one event of hart k of a machine without an ending. Where no port met a fault, each state has come to the one
-- that it leads to; the source need tell its rest for a read alone. A fault of the source is met in a read and one of
-- the sink in a write, and it leaves all as it was, but that a first part of what the call appends has gone out
pub record Acts (k : ℕ) (c d : Configuration) : Type 0 where
  pub core : (s : State) → c.core ≡ s.core → TellsRead s k c.rest
      → is_port_fault d.core.ended ≡ false → d.core ≡ (after_event s k).core
  pub rest : (s : State) → c.core ≡ s.core → c.rest ≡ Some s.rest
      → is_port_fault d.core.ended ≡ false → d.rest ≡ Some (after_event s k).rest
  pub output : (s : State) → c.core ≡ s.core
      → is_port_fault d.core.ended ≡ false → c.written ≡ Some s.output → d.written ≡ Some (after_event s k).output
  pub reading : d.core.ended ≡ Some ReadFault → StopsReading k c.core d.core
  pub writing : d.core.ended ≡ Some WriteFault → StopsWriting k c.core d.core
  pub unread : d.core.ended ≡ Some WriteFault → d.rest ≡ c.rest
  pub sent : (s : State) → c.core ≡ s.core → is_port_fault d.core.ended ≡ true
      → c.written ≡ Some s.output → WritesPart s.output (after_event s k).output d.written

-- what holds of every event: only a fault of a port gives that ending
pub record Keeps (c d : Configuration) : Type 0 where
  pub unspent : c.core.ended ≢ Some Spent → d.core.ended ≢ Some Spent
  pub read_fault : d.core.ended ≡ Some ReadFault → (c.core.ended ≡ Some ReadFault) ⊎ Rose c.read_faults d.read_faults
  pub write_fault : d.core.ended ≡ Some WriteFault
      → (c.core.ended ≡ Some WriteFault) ⊎ Rose c.write_faults d.write_faults
  pub input_never_falls : c.read_faults ≤ d.read_faults
  pub output_never_falls : c.write_faults ≤ d.write_faults
