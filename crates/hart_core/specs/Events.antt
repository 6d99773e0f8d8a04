-- One event of one hart, and the events of a list of harts in order.
use Rattle.std.specs.Prelude.{ℕ, ◌==◌, ◌-◌, ◌/◌, ◌%◌, Bool, true, false, ◌&&◌, nat_le, if◌then◌else◌, List, [], ◌∷◌, slice_get, Option, Some, None, IsTrue}
use Rattle.rv64_decode.specs.XTable.{decoded_x}
use Rattle.rv64_decode.specs.declared.instr.Instr.{Instr}
use Rattle.rv64_decode.specs.declared.xinstr.XInstr.{XInstr}
use Rattle.rv64_decode.specs.declared.xinstr.XInstr.TheVariants.{Base, Put, Get, Par, Join, Back, Id, Harts}
use Rattle.serial_run.specs.Serial.{State as Serial, step, after_instr}
use Rattle.serial_run.specs.declared.machine.End.{End}
use Rattle.hart_core.specs.Machine.{Mode, Free, Stub, Passing, Waiting, Idle, Hart, Core, State, alone_in}
use Rattle.hart_core.specs.Rows.{after_own, after_base, illegal, of_hart, forked, joined, went_back}

-- the added word at an address, if there is one
unfoldable pub added_word : List ℕ → ℕ → Option ℕ
added_word code pc =
    if nat_le 0x6000_0000 pc && pc % 4 == 0 then slice_get code ((pc - 0x6000_0000) / 4) else None

abbrev pub with_core : State → Core → State
with_core s c = record s { core = c }

-- hart k executes a word of the original, as the one hart of the serial machine does
abbrev pub own_event : State → ℕ → Hart → State
own_event s k h =
    let t = step (alone_in s h) in
    record { core = after_own s.core k h t.machine; output = t.output; rest = t.rest }

-- hart k executes an instruction of added code that is no ordinary one, that of a word
abbrev pub added_core : Core → ℕ → Hart → ℕ → XInstr → Core
added_core c k h word (Base i) = c
added_core c k h word (Put slot rs1) = of_hart c k h (Put slot rs1)
added_core c k h word (Get rd slot) = of_hart c k h (Get rd slot)
added_core c k h word Par = if k == 0 then forked c h else illegal c k h word
added_core c k h word Join = joined c k h
added_core c k h word Back = if k == 0 then went_back c h else illegal c k h word
added_core c k h word (Id rd) = of_hart c k h (Id rd)
added_core c k h word (Harts rd) = of_hart c k h (Harts rd)

-- hart k executes an ordinary instruction of added code, as the one hart of the serial machine does
abbrev pub base_event : State → ℕ → Hart → Instr → State
base_event s k h i =
    let t = after_instr (alone_in s h) i in
    record { core = after_base s.core k h t.machine; output = t.output; rest = t.rest }

-- hart k executes an instruction of added code
abbrev pub added_event : State → ℕ → Hart → ℕ → XInstr → State
added_event s k h word (Base i) = base_event s k h i
added_event s k h word (Put slot rs1) = with_core s (added_core s.core k h word (Put slot rs1))
added_event s k h word (Get rd slot) = with_core s (added_core s.core k h word (Get rd slot))
added_event s k h word Par = with_core s (added_core s.core k h word Par)
added_event s k h word Join = with_core s (added_core s.core k h word Join)
added_event s k h word Back = with_core s (added_core s.core k h word Back)
added_event s k h word (Id rd) = with_core s (added_core s.core k h word (Id rd))
added_event s k h word (Harts rd) = with_core s (added_core s.core k h word (Harts rd))

abbrev pub decoded_event : State → ℕ → Hart → ℕ → Option XInstr → State
decoded_event s k h word None = with_core s (illegal s.core k h word)
decoded_event s k h word (Some i) = added_event s k h word i

abbrev pub word_event : State → ℕ → Hart → Option ℕ → State
word_event s k h None = with_core s (illegal s.core k h 0)
word_event s k h (Some word) = decoded_event s k h word (decoded_x word)

-- what an event of hart k does by what the hart is about to do
abbrev pub event_by : Mode → State → ℕ → Hart → State
event_by Free s k h = own_event s k h
event_by Stub s k h = word_event s k h (added_word s.core.image.code h.pc)
event_by Passing s k h = own_event s k h
event_by Waiting s k h = s
event_by Idle s k h = s

-- there is no hart of other numbers
abbrev pub event_of : State → ℕ → Option Hart → State
event_of s k None = s
event_of s k (Some h) = event_by h.mode s k h

abbrev pub unless_ended : Option End → State → State → State
unless_ended None s t = t
unless_ended (Some end) s t = s

-- one event of hart k; after the ending there is none
unfoldable pub after_event : State → ℕ → State
after_event s k = unless_ended s.core.ended s (event_of s k (slice_get s.core.harts k))

-- the events of these harts, one after the other
abbrev pub after_events : State → List ℕ → State
after_events s [] = s
after_events s (k ∷ rest) = after_events (after_event s k) rest

-- a hart that may execute something
abbrev pub goes : Mode → Bool
goes Free = true
goes Stub = true
goes Passing = true
goes Waiting = false
goes Idle = false

abbrev pub goes_in : Option Hart → Bool
goes_in None = false
goes_in (Some h) = goes h.mode

abbrev pub goes_before : Option End → Bool → Bool
goes_before None b = b
goes_before (Some end) b = false

-- an event of hart k does something
abbrev pub is_effective : Core → ℕ → Bool
is_effective c k = goes_before c.ended (goes_in (slice_get c.harts k))

abbrev pub IsEffective : Core → ℕ → Type 0
IsEffective c k = IsTrue (is_effective c k)
