-- Harts before and after the run of some words.
use Rattle.std.specs.Prelude.{ℕ, ◌≡◌, ◌+◌, ◌<◌, ◌≤◌, ◌^◌, Bool, true, false, List, ◌++◌, length, slice_index}
use Rattle.rv64_decode.specs.Area.{Area}
use Rattle.rv64_decode.specs.Ask.{Ask}
use Rattle.rv64_decode.specs.Hart.{Hart, address, run}
use Rattle.rv64_decode.specs.Range.{AreWords}
use Rattle.rv64_decode.specs.Registers.{register}
use Rattle.rv64_decode.specs.declared.xinstr.XInstr.{XInstr}
use Rattle.stub_laws.specs.Straight.{read, all_registers, all_slots}
use Rattle.stub_laws.specs.Places.{WordsAt}
use Rattle.stub_laws.specs.Locations.{Keeps}

-- 32 slots, each a word
pub record AreSlots (slots : List ℕ) : Type 0 where
  pub count : length slots ≡ 32
  pub below : (s : ℕ) → slice_index slots s < 2 ^ 64

-- a hart at a place, with its registers and slots
pub record IsHartAt (place : ℕ) (h : Hart) : Type 0 where
  pub at : h.pc ≡ address place
  pub registers : AreWords h.regs
  pub slots : AreSlots h.slots

-- a hart that has come from the first to a place: it has written no register but the touched ones, no slot and no
-- memory, and made no access
pub record Came (h : Hart) (place : ℕ) (touched : ℕ → Bool) (now : Hart) : Type 0 where
  pub at : now.pc ≡ address place
  pub registers : (r : ℕ) → r < 32 → touched r ≡ false → register now.regs r ≡ register h.regs r
  pub slots : (s : ℕ) → s < 32 → slice_index now.slots s ≡ slice_index h.slots s
  pub memory : now.memory ≡ h.memory
  pub log : now.log ≡ h.log

-- the run comes to a place, with this value in a register
pub record Gives (code : List ℕ) (h : Hart) (place : ℕ) (touched : ℕ → Bool) (r v : ℕ) : Type 0 where
  pub steps : ℕ
  pub came : Came h place touched (run code steps h)
  pub value : register (run code steps h).regs r ≡ v

-- the run comes to a place
pub record Comes (code : List ℕ) (h : Hart) (place : ℕ) (touched : ℕ → Bool) : Type 0 where
  pub steps : ℕ
  pub came : Came h place touched (run code steps h)

-- a hart that has executed instructions one after the other
pub record Passed (is : List XInstr) (h : Hart) (place : ℕ) (now : Hart) : Type 0 where
  pub at : now.pc ≡ address place
  pub registers : (r : ℕ) → r < 32
      → register now.regs r ≡ read (all_registers is (register h.regs) (slice_index h.slots)) r
  pub slots : (s : ℕ) → s < 32
      → slice_index now.slots s ≡ all_slots is (register h.regs) (slice_index h.slots) s
  pub memory : now.memory ≡ h.memory
  pub log : now.log ≡ h.log

-- a hart at this place, with this memory and these accesses made, whose known locations hold these values
pub record Reached (known : ℕ → Bool) (e : ℕ → ℕ) (m : List Area) (l : List Ask) (place : ℕ) (h : Hart) : Type 0 where
  pub at : h.pc ≡ address place
  pub memory : h.memory ≡ m
  pub log : h.log ≡ l
  pub keeps : Keeps known e h

-- the same, whatever accesses were made
pub record Failed (known : ℕ → Bool) (e : ℕ → ℕ) (m : List Area) (place : ℕ) (h : Hart) : Type 0 where
  pub at : h.pc ≡ address place
  pub memory : h.memory ≡ m
  pub keeps : Keeps known e h

-- wherever these words stand, a hart with this memory goes on to their end where the test holds, with these accesses
-- made and more known, and to the target of their open jumps where it fails; memory stays
pub record Checked (m : List Area) (known after : ℕ → Bool) (e : ℕ → ℕ) (words : List ℕ) (holds : Bool)
    (loads : List Ask) : Type 0 where
  pub by : (code : List ℕ) (p no to k : ℕ) (h : Hart) → length code ≤ 2 ^ 32 → no ≤ 2 ^ 32 → no + k ≡ to + p
      → WordsAt code p to k words → h.pc ≡ address p → h.memory ≡ m → Keeps known e h
      → (holds ≡ true → (n : ℕ) × Reached after e h.memory (h.log ++ loads) (p + length words) (run code n h))
      × (holds ≡ false → (n : ℕ) × Failed known e h.memory no (run code n h))
