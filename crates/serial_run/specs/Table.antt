-- Instructions that were decoded before, each with its address.
use Rattle.std.specs.Prelude.{ℕ, ◌≡◌, List, All, Some, None}
use Rattle.rv64_decode.specs.Area.{Area}
use Rattle.rv64_decode.specs.Fetched.{instr_at}
use Rattle.rv64_meaning.specs.Mnemonics.{instr_of}
use Rattle.serial_run.specs.Serial.{State, ended, step, with_ending}
use Rattle.serial_run.specs.declared.machine.End.{End}
use Rattle.serial_run.specs.declared.machine.End.TheVariants.{Faulted}
use Rattle.serial_run.specs.declared.table.Entry.{Entry}

-- the instruction at pc, or the fetch of one, does not complete
abbrev pub IsFault : End → Type 0
IsFault (Faulted kind pc addr) = Unit {0}
IsFault _ = ⊥

-- a run comes to this ending at pc, since no instruction is executed there
pub record EndsAt (m : List Area) (pc : ℕ) (end : End) : Type 0 where
  pub fault : IsFault end
  pub next : (s : State) → s.machine.memory ≡ m → s.machine.pc ≡ pc → ended s ≡ None
      → step s ≡ with_ending s end

-- an entry has the instruction of its address
pub record IsEntryOf (m : List Area) (e : Entry) : Type 0 where
  pub is : instr_at m e.at ≡ Some (instr_of e.decoded)

-- each entry does
abbrev pub IsTableOf : List Area → List Entry → Type 0
IsTableOf m entries = All (IsEntryOf m) entries
