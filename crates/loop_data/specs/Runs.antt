-- The run of a machine whose words stand in its memory, until a fault or a call of the environment. It
-- is the serial run as far as no call is made.
use Rattle.std.specs.Prelude.{ℕ, zero, suc, Bool, false, List, Option, Some, None, Result, Ok, Err}
use Rattle.rv64_decode.specs.Area.{Area, fetch_of}
use Rattle.rv64_decode.specs.Ask.{Ask, Nothing, answer, after}
use Rattle.rv64_decode.specs.Fetched.{instr_at}
use Rattle.rv64_decode.specs.Table.{decoded}
use Rattle.rv64_decode.specs.Row.{asks, outcome}
use Rattle.rv64_decode.specs.Table.{decoded}
use Rattle.rv64_decode.specs.declared.memory.MemFault.{MemFault}
use Rattle.rv64_decode.specs.declared.instr.Instr.{Instr}
use Rattle.rv64_decode.specs.declared.outcome.Fault.TheVariants.{Fetch, Illegal}
use Rattle.rv64_decode.specs.declared.outcome.Next.{Next}
use Rattle.rv64_decode.specs.declared.outcome.Next.TheVariants.{At, Call, Fault as Faulting}

-- where the run goes on, or why it does not; the registers; the memory
pub record State : Type 0 where
  pub next : Next
  pub regs : List ℕ
  pub memory : List Area

-- the instruction at the word where the run goes on, if it goes on
abbrev pub instr_of : Next → List Area → Option Instr
instr_of (At pc) m = instr_at m pc
instr_of Call m = None
instr_of (Faulting kind addr) m = None

-- the instruction that a state executes, where it executes one
abbrev pub instr : State → Option Instr
instr s = instr_of s.next s.memory

-- an instruction is executed at pc
abbrev pub performed : Instr → ℕ → List ℕ → List Area → State
performed i pc regs m =
    let o = outcome i pc regs m in record { next = o.next; regs = o.regs; memory = after m (asks i regs) }

-- the word at pc is; one that stands for no instruction is a fault
abbrev pub executed : ℕ → Option Instr → ℕ → List ℕ → List Area → State
executed word (Some i) pc regs m = performed i pc regs m
executed word None pc regs m = record { next = Faulting Illegal word; regs = regs; memory = m }

abbrev pub fetched : Result ℕ MemFault → ℕ → List ℕ → List Area → State
fetched (Ok word) pc regs m = executed word (decoded word) pc regs m
fetched (Err why) pc regs m = record { next = Faulting Fetch pc; regs = regs; memory = m }

abbrev pub stepped : Next → List ℕ → List Area → State
stepped (At pc) regs m = fetched (fetch_of m pc) pc regs m
stepped Call regs m = record { next = Call; regs = regs; memory = m }
stepped (Faulting kind addr) regs m = record { next = Faulting kind addr; regs = regs; memory = m }

-- one instruction; at a fault or a call the state stays as it is
unfoldable pub step : State → State
step s = stepped s.next s.regs s.memory

-- the state after n instructions
abbrev pub run : State → ℕ → State
run s zero = s
run s (suc n) = step (run s n)

abbrev pub pc_in : Next → ℕ
pc_in (At pc) = pc
pc_in Call = 0
pc_in (Faulting kind addr) = 0

-- the word that is visited as number n; 0 where the run does not go on
abbrev pub walk : State → ℕ → ℕ
walk s n = pc_in (run s n).next

-- the run goes on at a word that passes the test
abbrev pub goes_at : (ℕ → Bool) → Next → Bool
goes_at test (At pc) = test pc
goes_at test Call = false
goes_at test (Faulting kind addr) = false

abbrev pub asks_of : Option Instr → List ℕ → Ask
asks_of (Some i) regs = asks i regs
asks_of None regs = Nothing

-- what is asked, where it is not refused
abbrev pub unless_denied : Result ℕ MemFault → Ask → Ask
unless_denied (Ok n) a = a
unless_denied (Err why) a = Nothing

abbrev pub granted : List Area → Ask → Ask
granted m a = unless_denied (answer m a) a

-- the access that a state makes to memory
abbrev pub access : State → Ask
access s = granted s.memory (asks_of (instr s) s.regs)
