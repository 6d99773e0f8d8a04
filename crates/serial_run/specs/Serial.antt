-- The run of an executable by one hart: where it starts, what one instruction does, the state after
-- any number of them, and where it ends.
use Rattle.std.specs.Prelude.{ℕ, zero, suc, ◌≡◌, ◌+◌, ◌<◌, ◌++◌, List, [], Option, Some, None, IsSome, IsNone, is_some, if◌then◌else◌, Result, Ok, Err, replicate}
use Rattle.rv64_decode.specs.Area.{Area, fetch_of}
use Rattle.rv64_decode.specs.Ask.{after}
use Rattle.rv64_decode.specs.Registers.{with_register}
use Rattle.rv64_decode.specs.Table.{decoded}
use Rattle.rv64_decode.specs.Row.{asks, outcome, next_pc}
use Rattle.rv64_decode.specs.declared.memory.MemFault.{MemFault}
use Rattle.rv64_decode.specs.declared.instr.Instr.{Instr}
use Rattle.rv64_decode.specs.declared.outcome.Fault.{Fault}
use Rattle.rv64_decode.specs.declared.outcome.Fault.TheVariants.{Fetch, Illegal}
use Rattle.rv64_decode.specs.declared.outcome.Next.{Next}
use Rattle.rv64_decode.specs.declared.outcome.Next.TheVariants.{At, Call, Fault as Faulting}
use Rattle.elf_image.specs.declared.image.Elf.{Elf}
use Rattle.guest_memory.specs.Areas.{areas_of, heap_low, heap_size}
use Rattle.guest_calls.specs.Calls.{Called, called}
use Rattle.guest_calls.specs.declared.Going.{Going}
use Rattle.guest_calls.specs.declared.Going.TheVariants.{On, Exit}
use Rattle.serial_run.specs.declared.machine.Machine.{Machine}
use Rattle.serial_run.specs.declared.machine.End.{End}
use Rattle.serial_run.specs.declared.machine.End.TheVariants.{Exited, Faulted}

-- a machine, the bytes that it has written, and those of the input that it has not read
pub record State : Type 0 where
  pub machine : Machine
  pub output : List ℕ
  pub rest : List ℕ

abbrev pub state_of : Machine → List ℕ → List ℕ → State
state_of machine output rest = record { machine = machine; output = output; rest = rest }

-- how the run has ended, if it has
abbrev pub ended : State → Option End
ended s = s.machine.ended

-- the registers at the start: x2 is the stack pointer, and all others are 0
abbrev pub start_regs : List ℕ
start_regs = with_register (replicate 32 0) 2 0x7F7F_FFC0

-- the machine at the start of an executable
abbrev pub start_machine : Elf → Machine
start_machine elf =
    let low = heap_low elf.segments in
    record {
      pc = elf.entry;
      regs = start_regs;
      memory = areas_of elf;
      brk = record { at = low; low = low; high = low + heap_size };
      ended = None;
    }

-- the state at the start, with all of the input unread
abbrev pub start_of : Elf → List ℕ → State
start_of elf input = record { machine = start_machine elf; output = []; rest = input }

-- the state with an ending
abbrev pub with_ending : State → End → State
with_ending s end = record s { machine = record s.machine { ended = Some end } }

-- the instruction at pc faults, and all else stays
abbrev pub after_fault : State → Fault → ℕ → State
after_fault s kind addr = with_ending s (Faulted kind s.machine.pc addr)

-- after a call the run goes on behind it, or ends there
abbrev pub pc_after : ℕ → Going → ℕ
pc_after pc On = next_pc pc
pc_after pc (Exit code) = pc

abbrev pub end_after : Going → Option End
end_after On = None
end_after (Exit code) = Some (Exited code)

-- the state that a call leaves
abbrev pub after_call : State → Called → State
after_call s c =
    record {
      machine = record {
        pc = pc_after s.machine.pc c.going;
        regs = c.regs;
        memory = c.memory;
        brk = c.brk;
        ended = end_after c.going;
      };
      output = s.output ++ c.written;
      rest = c.rest;
    }

-- the state with the registers and the memory that an instruction leaves
abbrev pub with_left : State → List ℕ → List Area → State
with_left s regs m = record s { machine = record s.machine { regs = regs; memory = m } }

-- the state to which it leads from there
abbrev pub after_next : State → Next → State
after_next s (At pc) = record s { machine = record s.machine { pc = pc } }
after_next s Call = after_call s (called s.machine.regs s.machine.memory s.machine.brk s.rest)
after_next s (Faulting kind addr) = after_fault s kind addr

-- the state after the instruction at pc
abbrev pub after_instr : State → Instr → State
after_instr s i =
    let m = s.machine in
    let o = outcome i m.pc m.regs m.memory in
    after_next (with_left s o.regs (after m.memory (asks i m.regs))) o.next

-- the state after the word at pc; one that stands for no instruction is a fault at itself
abbrev pub after_word : State → ℕ → Option Instr → State
after_word s word None = after_fault s Illegal word
after_word s word (Some i) = after_instr s i

-- the same, for what a fetch at pc gives: a fault where pc lies in no executable area
abbrev pub after_fetch : State → Result ℕ MemFault → State
after_fetch s (Ok word) = after_word s word (decoded word)
after_fetch s (Err why) = after_fault s Fetch s.machine.pc

abbrev pub unless_ended : Option End → State → State → State
unless_ended None s t = t
unless_ended (Some end) s t = s

-- one instruction; a state with an ending stays as it is
unfoldable pub step : State → State
step s = unless_ended (ended s) s (after_fetch s (fetch_of s.machine.memory s.machine.pc))

-- the state after n instructions
abbrev pub serial : ℕ → State → State
serial zero s = s
serial (suc n) s = serial n (step s)

-- how many instructions are executed, of at most `fuel`, until there is an ending
abbrev pub executed_of : ℕ → State → ℕ
executed_of zero s = 0
executed_of (suc fuel) s = if is_some (ended s) then 0 else suc (executed_of fuel (step s))

-- t is the state at the first ending, after n instructions
pub record IsEnding (s : State) (n : ℕ) (t : State) : Type 0 where
  pub reached : serial n s ≡ t
  pub at_end : IsSome (ended t)
  pub first : (k : ℕ) → k < n → IsNone (ended (serial k s))
