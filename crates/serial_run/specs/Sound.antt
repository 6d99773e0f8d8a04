-- What is true of every state of an executable's run.
use Rattle.std.specs.Prelude.{ℕ, ◌≡◌, ◌%◌, ◌^◌, ◌<◌, List, [], ◌∷◌, All, slice_index}
use Rattle.elf_image.specs.declared.image.Segment.{Segment}
use Rattle.elf_image.specs.declared.image.Elf.{Elf}
use Rattle.rv64_decode.specs.Range.{AreWords, AreBytes}
use Rattle.guest_memory.specs.Areas.{areas_of}
use Rattle.guest_memory.specs.Layout.{KeepAreas}
use Rattle.serial_run.specs.Serial.{State}

-- the bytes of segments are bytes
abbrev pub HaveBytes : List Segment → Type 0
HaveBytes [] = Unit {0}
HaveBytes (s ∷ rest) = ((i : ℕ) → slice_index s.bytes i < 256) × HaveBytes rest

-- registers are words and bytes are bytes; the areas and permissions are the executable's, and so are
-- the bytes of areas that may not be written, as those of code; pc is a multiple of 4
pub record IsSound (elf : Elf) (s : State) : Type 0 where
  pub registers : AreWords s.machine.regs
  pub bytes : AreBytes s.machine.memory
  pub areas : KeepAreas (areas_of elf) s.machine.memory
  pub aligned : s.machine.pc % 4 ≡ 0
  pub break_word : s.machine.brk.at < 2 ^ 64
  pub unread : All (λ b. b < 256) s.rest
