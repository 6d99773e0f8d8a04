-- A program of two instructions on one hart: it ends with the number 0, and counts two events.
use Rattle.std.specs.Prelude.{◌≡◌, [], ◌∷◌}
use Rattle.elf_image.specs.declared.image.Elf.{Elf}
use Rattle.image_writer.specs.declared.image.Image.{Image}
use Rattle.serial_run.specs.Serial.{start_of, serial, IsEnding}
use Rattle.hart_core.specs.Counting.{steps_of}
use Rattle.hart_core.specs.Start.{start_state}
use Rattle.hart_core.specs.Alone.{events_alone}
use Rattle.one_hart.specs.Laws.{IsDivided}
use Rattle.walks.specs.Walk.{IsPoint}
use Rattle.walks.specs.Laws.{plain_point}

-- li x17, 93; ecall
abbrev pub two_words : Elf
two_words =
    record {
      entry = 0x1_0000;
      segments =
          record {
            index = 0;
            vaddr = 0x1_0000;
            memsz = 8;
            flags = 5;
            bytes = 0x93 ∷ 0x08 ∷ 0xD0 ∷ 0x05 ∷ 0x73 ∷ 0 ∷ 0 ∷ 0 ∷ [];
          }
          ∷ [];
    }

-- its image has no entries
abbrev pub two_word_image : Image
two_word_image = record { elf = two_words; entries = []; code = [] }

pub record SampleWalk : Type 0 where
  pub divided : IsDivided two_word_image
  pub ending : IsEnding (start_of two_words []) 2 (serial 2 (start_of two_words []))
  pub point : IsPoint two_word_image [] 2 (plain_point 2)
  pub steps : steps_of (events_alone 2 (start_state two_word_image 1 [])).core.harts ≡ 2
