-- What a run of hart 0 alone makes of the machine and of the source and the sink that go with it, also where one of
-- these meets a fault.
use Rattle.std.specs.Prelude.{ℕ, suc, ◌≡◌, ◌<◌, ◌++◌, Option, Some, List, true, false, IsNone}
use Rattle.guest_calls.specs.Faults.{SendsPart}
use Rattle.serial_run.specs.Runs.{is_port_fault, WritesPart}
use Rattle.serial_run.specs.declared.machine.End.TheVariants.{ReadFault, WriteFault}
use Rattle.hart_core.specs.Machine.{Hart, State}
use Rattle.hart_core.specs.Acting.{Configuration, StandsAtCall, NeverCalls, StopsReading, StopsWriting}
use Rattle.hart_core.specs.Alone.{events_alone}

-- the source tells what is unread at a state, where one of n events of hart 0 from there on reads (63)
abbrev pub TellsReads : ℕ → State → Option (List ℕ) → Type 0
TellsReads n s told =
    (k : ℕ) → k < n → IsNone (events_alone k s).core.ended → (h : Hart) → StandsAtCall 63 (events_alone k s).core 0 h
    → told ≡ Some s.rest

-- none of n events of hart 0 from a state on is the call of this number
abbrev pub DoesNoCall : ℕ → ℕ → State → Type 0
DoesNoCall number n s =
    (k : ℕ) → k < n → IsNone (events_alone k s).core.ended → NeverCalls number (events_alone k s).core 0

-- of at most n events of hart 0 from a state on, a port met a fault in the one behind `count` others, and nothing more
-- was read or written
pub record StopsWithin (n : ℕ) (s : State) (c d : Configuration) : Type 0 where
  pub count : ℕ
  pub below : count < n
  pub running : IsNone (events_alone count s).core.ended
  pub reading : d.core.ended ≡ Some ReadFault → StopsReading 0 (events_alone count s).core d.core
  pub writing : d.core.ended ≡ Some WriteFault → StopsWriting 0 (events_alone count s).core d.core
  pub unread : d.core.ended ≡ Some WriteFault → c.rest ≡ Some s.rest → d.rest ≡ Some (events_alone count s).rest
  pub sent : (before : List ℕ) → c.written ≡ Some (before ++ s.output)
      → WritesPart (before ++ (events_alone count s).output) (before ++ (events_alone (suc count) s).output) d.written
  pub part : (before : List ℕ) → c.written ≡ Some (before ++ s.output)
      → SendsPart before (events_alone n s).output d.written

-- at most n events of hart 0, and of no other. Where no port met a fault, each state has come to the one behind n such
-- events, and its output stands behind what was written before it. Where one did, hart 0 stands at the call in which it
-- was met
pub record Runs (n : ℕ) (c d : Configuration) : Type 0 where
  pub core : (s : State) → c.core ≡ s.core → TellsReads n s c.rest
      → is_port_fault d.core.ended ≡ false → d.core ≡ (events_alone n s).core
  pub rest : (s : State) → c.core ≡ s.core → c.rest ≡ Some s.rest
      → is_port_fault d.core.ended ≡ false → d.rest ≡ Some (events_alone n s).rest
  pub output : (s : State) (before : List ℕ) → c.core ≡ s.core → TellsReads n s c.rest
      → is_port_fault d.core.ended ≡ false → c.written ≡ Some (before ++ s.output)
      → d.written ≡ Some (before ++ (events_alone n s).output)
  pub stops : (s : State) → c.core ≡ s.core → TellsReads n s c.rest → IsNone c.core.ended
      → is_port_fault d.core.ended ≡ true → StopsWithin n s c d
