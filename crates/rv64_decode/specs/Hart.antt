-- What one hart does by the words of added code: one instruction in its part on this hart alone, and the
-- run of such words over registers, slots and memory.
use Rattle.std.specs.Prelude.{ℕ, zero, suc, ◌==◌, ◌+◌, ◌-◌, ◌*◌, ◌/◌, ◌%◌, if◌then◌else◌, nat_le, ◌&&◌, List, ◌∷◌, [], ◌++◌, Option, Some, None, slice_get, slice_index, slice_set}
use Rattle.rv64_decode.specs.Area.{Area}
use Rattle.rv64_decode.specs.Ask.{Ask, Nothing, Loads, Stores, after}
use Rattle.rv64_decode.specs.Registers.{register, with_register}
use Rattle.rv64_decode.specs.Row.{asks, outcome, next_pc}
use Rattle.rv64_decode.specs.declared.outcome.Next.TheVariants.{At, Call, Fault as Faulting}
use Rattle.rv64_decode.specs.declared.xinstr.XInstr.{XInstr}
use Rattle.rv64_decode.specs.declared.xinstr.XInstr.TheVariants.{Base, Put, Get, Par, Join, Back, Id, Harts}
use Rattle.rv64_decode.specs.declared.xinstr.XNext.{XNext}
use Rattle.rv64_decode.specs.declared.xinstr.XNext.TheVariants.{Own, Shared}
use Rattle.rv64_decode.specs.XTable.{decoded_x}

-- where an instruction leads, and the registers and slots that it leaves
pub record XOutcome : Type 0 where
  pub next : XNext
  pub regs : List ℕ
  pub slots : List ℕ

-- what an instruction of added code asks of memory
abbrev pub x_asks : XInstr → List ℕ → Ask
x_asks (Base i) regs = asks i regs
x_asks _ regs = Nothing

-- the hart goes on at the next word
abbrev pub x_onward : ℕ → List ℕ → List ℕ → XOutcome
x_onward pc regs slots = record { next = Own (At (next_pc pc)); regs = regs; slots = slots }

-- the instruction concerns other harts too, and by itself changes nothing
abbrev pub shared : List ℕ → List ℕ → XOutcome
shared regs slots = record { next = Shared; regs = regs; slots = slots }

-- an instruction at pc, on the hart of a number among so many
abbrev pub x_outcome : XInstr → ℕ → List ℕ → List ℕ → ℕ → ℕ → List Area → XOutcome
x_outcome (Base i) pc regs slots number harts m =
    record { next = Own (outcome i pc regs m).next; regs = (outcome i pc regs m).regs; slots = slots }
x_outcome (Put slot rs1) pc regs slots number harts m = x_onward pc regs (slice_set slots slot (register regs rs1))
x_outcome (Get rd slot) pc regs slots number harts m =
    x_onward pc (with_register regs rd (slice_index slots slot)) slots
x_outcome (Id rd) pc regs slots number harts m = x_onward pc (with_register regs rd number) slots
x_outcome (Harts rd) pc regs slots number harts m = x_onward pc (with_register regs rd harts) slots
x_outcome Par pc regs slots number harts m = shared regs slots
x_outcome Join pc regs slots number harts m = shared regs slots
x_outcome Back pc regs slots number harts m = shared regs slots

-- one hart: its own part of the machine, and the memory
pub record Hart : Type 0 where
  pub pc : ℕ
  pub regs : List ℕ
  pub slots : List ℕ
  pub memory : List Area
  -- the accesses made so far
  pub log : List Ask
  pub number : ℕ
  pub harts : ℕ

-- the address of the word at a place of the added code
abbrev pub address : ℕ → ℕ
address place = 0x6000_0000 + 4 * place

abbrev pub read_by : Option ℕ → Option XInstr
read_by None = None
read_by (Some word) = decoded_x word

-- the instruction at an address, or none
unfoldable pub fetched : List ℕ → ℕ → Option XInstr
fetched code pc =
    if nat_le 0x6000_0000 pc && pc % 4 == 0 then read_by (slice_get code ((pc - 0x6000_0000) / 4)) else None

-- the accesses with one more
abbrev pub logged : List Ask → Ask → List Ask
logged log Nothing = log
logged log (Loads addr width) = log ++ Loads addr width ∷ []
logged log (Stores addr width value) = log ++ Stores addr width value ∷ []

-- the hart after an instruction; one that does not go on by itself stays where it is
abbrev pub moved : Hart → XNext → List ℕ → List ℕ → Ask → Hart
moved h (Own (At pc)) regs slots ask =
    record h { pc = pc; regs = regs; slots = slots; memory = after h.memory ask; log = logged h.log ask }
moved h (Own Call) regs slots ask = h
moved h (Own (Faulting kind addr)) regs slots ask = h
moved h Shared regs slots ask = h

abbrev pub outcome_at : XInstr → Hart → XOutcome
outcome_at i h = x_outcome i h.pc h.regs h.slots h.number h.harts h.memory

-- one instruction; where there is none, nothing changes
abbrev pub act : Option XInstr → Hart → Hart
act None h = h
act (Some i) h = moved h (outcome_at i h).next (outcome_at i h).regs (outcome_at i h).slots (x_asks i h.regs)

-- n instructions
unfoldable pub run : List ℕ → ℕ → Hart → Hart
run code zero h = h
run code (suc n) h = run code n (act (fetched code h.pc) h)
